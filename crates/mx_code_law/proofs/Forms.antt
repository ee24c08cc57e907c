-- The forms of expression that neither look up nor call, by their parts.
use Rattle.std.proofs.Common.{◌≡◌, ℕ, suc, ◌+◌, List, [], ◌∷◌, ◌++◌, length, map, Option, Bool, true, false, Ok, Err, refl, sym, ap, ◌∙◌, subst, arith, length-append, append-nil}
use Rattle.std.specs.Prelude.{if◌then◌else◌}
use Rattle.std.specs.Bool.{beq}
use Rattle.mx_value.specs.declared.value.Value.{Value, out-Value}
use Rattle.mx_value.specs.declared.value.Value.TheVariants.{Nothing, Flag, Tup}
use Rattle.mx_value.specs.declared.fault.FaultKind.TheVariants.{TypeMismatch}
use Rattle.mx_syntax.specs.declared.expr.Sign.{Sign}
use Rattle.mx_syntax.specs.declared.expr.Sign.TheVariants as sign
use Rattle.mx_syntax.specs.declared.op.Op.{Op}
use Rattle.mx_syntax.specs.declared.op.Op.TheVariants as op
use Rattle.mx_ops.specs.Truth.{truth}
use Rattle.mx_ops.specs.Answers.{Answer, made}
use Rattle.mx_ops.specs.Table.{gives}
use Rattle.mx_runs.specs.Runs.{Run}
use Rattle.mx_meaning.specs.Environments.{Env, Locals, Reading, computed, tested}
use Rattle.mx_meaning.specs.Lookup.{valued}
use Rattle.mx_meaning.specs.Lookup as lookup
use Rattle.mx_meaning.specs.Operations.{signing, and_then, of_two, denied, signed, powered}
use Rattle.mx_meaning.specs.Expressions.{values_from, values_beside, tuple_read, powered_by, joined_from, deciding_from, deciding, chosen_from, nothing_in, compared_from}
use Rattle.mx_meaning.specs.Expressions as meant
use Rattle.mx_code.specs.declared.action.Instr.{Instr}
use Rattle.mx_code.specs.declared.action.Local.{Local}
use Rattle.mx_code.specs.declared.action.Action.TheVariants as act
use Rattle.mx_code.specs.Operators.{sign_op}
use Rattle.mx_code.specs.Expressions.{at, Coded, Part, values_code, joined_code, signs_code, signs_of, beside, raised_code, powered_code, further_code, deciding_code, choice_code, arms_code, Comparing, By, IsNothing, compare_action, none_action, links_code, chain_code}
use Rattle.mx_code_law.specs.States.{Slot, Holds, state, Next, On, Home, on_many}
use Rattle.mx_code_law.specs.Machine.{truth_of, holds, next_of, Does, Ended}
use Rattle.mx_code_law.specs.Fits.{HasAt, IsScope, Stands, here, Fits, CalleeFits}
use Rattle.mx_code_law.proofs.Places.{has_front, has_back}
use Rattle.mx_code_law.proofs.Steps.{acts, went, to_either, computes, tests, flags, hits, moved}

-- the lists are as long, and what stands in one place in both is related
abbrev pub Both : {X Y : Type 0} → (X → Y → Type 0) → List X → List Y → Type 0
Both R [] [] = Unit {0}
Both R [] (y ∷ ys) = ⊥
Both R (x ∷ xs) [] = ⊥
Both R (x ∷ xs) (y ∷ ys) = R x y × Both R xs ys

-- values on the stack above others, the first of them lowest
abbrev pub onto : List Value → List Slot → List Slot
onto [] stack = stack
onto (v ∷ vs) stack = onto vs (Holds v ∷ stack)

pub onto_last : (vs : List Value) (v : Value) (stack : List Slot) → onto (vs ++ v ∷ []) stack ≡ Holds v ∷ onto vs stack
onto_last [] v stack = refl
onto_last (u ∷ vs) v stack = onto_last vs v (Holds u ∷ stack)

popped : (vs args : List Value) (stack : List Slot) (n : ℕ) (go : List Value → List Slot → Next) → on_many (length vs + n) args (onto vs stack) go ≡ on_many n (vs ++ args) stack go
popped [] args stack n go = let e : 0 + n ≡ n = omega arith in ap (λ m. on_many m args stack go) e
popped (v ∷ vs) args stack n go =
    let e : length (v ∷ vs) + n ≡ length vs + suc n = omega arith in
    ap (λ m. on_many m args (onto vs (Holds v ∷ stack)) go) e ∙ popped vs args (Holds v ∷ stack) (suc n) go

pub popped_all : (vs : List Value) (stack : List Slot) (count : ℕ) (go : List Value → List Slot → Next) → count ≡ length vs → on_many count [] (onto vs stack) go ≡ go vs stack
popped_all vs stack count go many =
    let e : count ≡ length vs + 0 = omega (arith, many) in
    ap (λ m. on_many m [] (onto vs stack) go) e ∙ popped vs [] stack 0 go ∙ ap (λ l. go l stack) (append-nil vs)

-- the same where each value has something beside it
abbrev pub onto_beside : {X : Type 0} → List (X × Value) → List Slot → List Slot
onto_beside [] stack = stack
onto_beside (p ∷ ps) stack = onto_beside ps (Holds p.1 ∷ stack)

onto_beside_last : {X : Type 0} (ps : List (X × Value)) (p : X × Value) (stack : List Slot) → onto_beside (ps ++ p ∷ []) stack ≡ Holds p.1 ∷ onto_beside ps stack
onto_beside_last [] p stack = refl
onto_beside_last (q ∷ ps) p stack = onto_beside_last ps p (Holds q.1 ∷ stack)

abbrev first : {X Y : Type 0} → X × Y → X
first p = p.0

first_last : {X Y : Type 0} (ps : List (X × Y)) (p : X × Y) (rest : List X) → map first (ps ++ p ∷ []) ++ rest ≡ map first ps ++ p.0 ∷ rest
first_last [] p rest = refl
first_last {X} (q ∷ ps) p rest = ap (λ (xs : List X). q.0 ∷ xs) (first_last ps p rest)

-- what comes of the first, and then of the second
then_computed : (a : Answer) (f : Value → Answer) (env : Env) (go : Value → Run) → computed (and_then a f) env go ≡ computed a env (λ v. computed (f v) env go)
then_computed (Ok v) f env go = refl
then_computed (Err kind) f env go = refl

-- a comparison, and whether it holds
then_tested : (a : Answer) (given other : Run) (env : Env) → computed a env (λ v. tested (truth v) given other env) ≡ tested (truth_of a) given other env
then_tested (Ok v) given other env = refl
then_tested (Err kind) given other env = refl

same_sign : (s : Sign) → signing s ≡ sign_op s
same_sign sign.Plus = refl
same_sign sign.Minus = refl

module _ (code : List Instr) (h : Home) (size : ℕ) where
  abbrev pub AlwaysFits : Reading → Coded → Type 0
  AlwaysFits r c = (scope : List Local) (line : ℕ) → IsScope scope → Fits code h size scope line (c scope line) r

  -- a part, as a value and as what is called
  abbrev pub PartFits : lookup.Part → Part → Type 0
  PartFits r p = AlwaysFits (valued r) (p false) × ((scope : List Local) (line : ℕ) → IsScope scope → CalleeFits code h size scope line (p true scope line) r)

  -- the same behind a value
  abbrev pub FitsBehind : List Local → ℕ → List Instr → (Value → Reading) → Type 0
  FitsBehind scope line c read =
      (u : Value) (pc : ℕ) (stack : List Slot) (ls : List (Option Value)) (locals : Locals) (go : Value → Run) → HasAt code size pc c → Stands size scope locals ls
      → ((v : Value) (ms : List (Option Value)) → Stands size scope locals ms → Does code h (state (pc + length c) (Holds v ∷ stack) ms) (go v))
      → Does code h (state pc (Holds u ∷ stack) ls) (read u (here h line locals) go)

  -- a part with what stands behind it
  pub behind_fits : (c : Coded) (r : Reading) (rest : Coded) (f : Value → Reading) → AlwaysFits r c → ((scope : List Local) (line : ℕ) → IsScope scope → FitsBehind scope line (rest scope line) f) → AlwaysFits (λ env go. r env (λ v. f v env go)) (λ scope line. c scope line ++ rest scope line)
  behind_fits c r rest f fc fr scope line sc pc stack ls locals go has st k =
      let end : pc + length (c scope line) + length (rest scope line) ≡ pc + length (c scope line ++ rest scope line) = omega (arith, length-append (c scope line) (rest scope line)) in
      fc scope line sc pc stack ls locals _ (has_front code size pc (c scope line) _ has) st (λ u ms sm.
      fr scope line sc u (pc + length (c scope line)) stack ms locals go (has_back code size pc (c scope line) _ has) sm (λ v ns sn. moved code h _ _ (Holds v ∷ stack) ns (go v) end (k v ns sn)))

  -- ---- parts in a row

  pub values_fit : (rs : List Reading) (cs : List Coded) → Both AlwaysFits rs cs → (scope : List Local) (line : ℕ) → IsScope scope → (done : List Value) (stack : List Slot) (pc : ℕ) (ls : List (Option Value)) (locals : Locals) (go : List Value → Run) → HasAt code size pc (values_code cs scope line) → Stands size scope locals ls
      → ((vs : List Value) (ms : List (Option Value)) → Stands size scope locals ms → length vs ≡ length done + length cs → Does code h (state (pc + length (values_code cs scope line)) (onto vs stack) ms) (go vs))
      → Does code h (state pc (onto done stack) ls) (values_from rs done (here h line locals) go)
  values_fit [] [] b scope line sc done stack pc ls locals go has st k = moved code h _ _ (onto done stack) ls (go done) (omega arith) (k done ls st (omega arith))
  values_fit [] (c ∷ cs) b scope line sc done stack pc ls locals go has st k = absurd b
  values_fit (r ∷ rs) [] b scope line sc done stack pc ls locals go has st k = absurd b
  values_fit (r ∷ rs) (c ∷ cs) b scope line sc done stack pc ls locals go has st k =
      let is = c scope line in
      let end : pc + length is + length (values_code cs scope line) ≡ pc + length (values_code (c ∷ cs) scope line) = omega (arith, length-append is (values_code cs scope line)) in
      b.0 scope line sc pc (onto done stack) ls locals _ (has_front code size pc is _ has) st (λ v ms sm.
      subst (λ (s : List Slot). Does code h (state (pc + length is) s ms) (values_from rs (done ++ v ∷ []) (here h line locals) go)) (onto_last done v stack)
      (values_fit rs cs b.1 scope line sc (done ++ v ∷ []) stack (pc + length is) ms locals go (has_back code size pc is _ has) sm (λ vs ns sn e. moved code h _ _ (onto vs stack) ns (go vs) end (k vs ns sn (omega (arith, e, length-append done (v ∷ [])))))))

  pub tuple_fits : (rs : List Reading) (cs : List Coded) (count : ℕ) → count ≡ length cs → Both AlwaysFits rs cs → AlwaysFits (tuple_read rs) (λ scope line. values_code cs scope line ++ at line (act.Tuple count) ∷ [])
  tuple_fits rs cs count many b scope line sc pc stack ls locals go has st k =
      let c = values_code cs scope line in
      let p = pc + length c in
      let end : p + 1 ≡ pc + length (c ++ at line (act.Tuple count) ∷ []) = omega (arith, length-append c (at line (act.Tuple count) ∷ [])) in
      values_fit rs cs b scope line sc [] stack pc ls locals _ (has_front code size pc c _ has) st (λ vs ms sm e.
      acts code h (state p (onto vs stack) ms) (at line (act.Tuple count)) _ _ (has_back code size pc c _ has).0 (popped_all vs stack count _ (omega (arith, e, many)))
      (computes code h (made (Tup vs)) line locals (λ v. On (state (p + 1) (Holds v ∷ stack) ms)) go (λ v. moved code h _ _ (Holds v ∷ stack) ms (go v) end (k v ms sm))))

  -- the same operator or signs beside each
  abbrev pub FitsBeside : {X : Type 0} → X × Reading → X × Coded → Type 0
  FitsBeside p q = (p.0 ≡ q.0) × AlwaysFits p.1 q.1

  joins : (ps : List (Op × Reading)) (qs : List (Op × Coded)) → Both FitsBeside ps qs → (scope : List Local) (line : ℕ) → IsScope scope → FitsBehind scope line (joined_code qs scope line) (joined_from ps)
  joins [] [] b scope line sc u pc stack ls locals go has st k = moved code h _ _ (Holds u ∷ stack) ls (go u) (omega arith) (k u ls st)
  joins [] (q ∷ qs) b scope line sc u pc stack ls locals go has st k = absurd b
  joins (p ∷ ps) [] b scope line sc u pc stack ls locals go has st k = absurd b
  joins (p ∷ ps) (q ∷ qs) b scope line sc u pc stack ls locals go has st k =
      let c = q.1 scope line in
      let n = pc + length c in
      let hb = has_back code size pc c _ has in
      let end : n + 1 + length (joined_code qs scope line) ≡ pc + length (joined_code (q ∷ qs) scope line) = omega (arith, length-append c (at line (act.Binary q.0) ∷ joined_code qs scope line)) in
      b.0.1 scope line sc pc (Holds u ∷ stack) ls locals _ (has_front code size pc c _ has) st (λ v ms sm.
      subst (λ o. Does code h (state n (Holds v ∷ Holds u ∷ stack) ms) (computed (of_two o u v) (here h line locals) (λ s. joined_from ps s (here h line locals) go))) (sym b.0.0)
      (acts code h (state n (Holds v ∷ Holds u ∷ stack) ms) (at line (act.Binary q.0)) _ _ hb.0 refl
      (computes code h (of_two q.0 u v) line locals (λ x. On (state (n + 1) (Holds x ∷ stack) ms)) _ (λ s.
      joins ps qs b.1 scope line sc s (n + 1) stack ms locals go hb.2 sm (λ v ns sn. moved code h _ _ (Holds v ∷ stack) ns (go v) end (k v ns sn))))))

  pub joined_fits : (p : Part) (r : lookup.Part) (ps : List (Op × Reading)) (qs : List (Op × Coded)) → PartFits r p → Both FitsBeside ps qs → AlwaysFits (λ env go. valued r env (λ v. joined_from ps v env go)) (λ scope line. (p false) scope line ++ joined_code qs scope line)
  joined_fits p r ps qs f b = behind_fits (p false) (valued r) (joined_code qs) (joined_from ps) f.0 (joins ps qs b)

  -- ---- signs, powers and `not`

  signs_fit : (signs : List Sign) (scope : List Local) (line : ℕ) → FitsBehind scope line (signs_code signs line) (λ u. computed (signed signs u))
  signs_fit [] scope line u pc stack ls locals go has st k = moved code h _ _ (Holds u ∷ stack) ls (go u) (omega arith) (k u ls st)
  signs_fit (s ∷ signs) scope line u pc stack ls locals go has st k =
      let c = signs_code signs line in
      let p = pc + length c in
      let end : p + 1 ≡ pc + length (signs_code (s ∷ signs) line) = omega (arith, length-append c (at line (act.Unary (sign_op s)) ∷ [])) in
      subst (λ run. Does code h (state pc (Holds u ∷ stack) ls) run) (sym (then_computed (signed signs u) (λ w. gives (signing s) (w ∷ [])) (here h line locals) go))
      (signs_fit signs scope line u pc stack ls locals _ (has_front code size pc c _ has) st (λ v ms sm.
      subst (λ o. Does code h (state p (Holds v ∷ stack) ms) (computed (gives o (v ∷ [])) (here h line locals) go)) (sym (same_sign s))
      (acts code h (state p (Holds v ∷ stack) ms) (at line (act.Unary (sign_op s))) _ _ (has_back code size pc c _ has).0 refl
      (computes code h (gives (sign_op s) (v ∷ [])) line locals (λ x. On (state (p + 1) (Holds x ∷ stack) ms)) go (λ x. moved code h _ _ (Holds x ∷ stack) ms (go x) end (k x ms sm))))))

  pub signed_fits : (p : Part) (r : lookup.Part) (signs : List Sign) → PartFits r p → AlwaysFits (λ env go. valued r env (λ v. computed (signed signs v) env go)) (λ scope line. (p false) scope line ++ signs_code signs line)
  signed_fits p r signs f = behind_fits (p false) (valued r) (λ scope line. signs_code signs line) (λ u. computed (signed signs u)) f.0 (λ scope line sc. signs_fit signs scope line)

  pub not_fits : (p : Part) (r : lookup.Part) (count : ℕ) → PartFits r p → AlwaysFits (λ env go. valued r env (λ v. computed (denied count v) env go)) (λ scope line. (p false) scope line ++ at line (act.Not count) ∷ [])
  not_fits p r count f = behind_fits (p false) (valued r) (λ scope line. at line (act.Not count) ∷ []) (λ u. computed (denied count u)) f.0 (λ scope line sc u pc stack ls locals go has st k.
      acts code h (state pc (Holds u ∷ stack) ls) (at line (act.Not count)) _ _ has.0 refl (computes code h (denied count u) line locals (λ x. On (state (pc + 1) (Holds x ∷ stack) ls)) go (λ x. k x ls st)))

  -- parts of a power that are computed, with those to the right joined first
  raises : (ps : List (List Sign × Value)) (base : Value) (scope : List Local) (line pc : ℕ) (stack : List Slot) (ls : List (Option Value)) (locals : Locals) (go : Value → Run) → HasAt code size pc (raised_code (map first ps) line) → Stands size scope locals ls
      → ((v : Value) (ms : List (Option Value)) → Stands size scope locals ms → Does code h (state (pc + length (raised_code (map first ps) line)) (Holds v ∷ stack) ms) (go v))
      → Does code h (state pc (onto_beside ps (Holds base ∷ stack)) ls) (computed (powered base ps) (here h line locals) go)
  raises [] base scope line pc stack ls locals go has st k = moved code h _ _ (Holds base ∷ stack) ls (go base) (omega arith) (k base ls st)
  raises (p ∷ ps) base scope line pc stack ls locals go has st k =
      let env = here h line locals in
      let c = raised_code (map first ps) line in
      let cs = signs_code p.0 line in
      let q = pc + length c in
      let hs = has_back code size pc c _ has in
      let hp = has_back code size q cs _ hs in
      let end : q + length cs + 1 ≡ pc + length (raised_code (map first (p ∷ ps)) line) = omega (arith, length-append c (cs ++ at line (act.Binary op.Pow) ∷ []), length-append cs (at line (act.Binary op.Pow) ∷ [])) in
      subst (λ run. Does code h (state pc (onto_beside ps (Holds p.1 ∷ Holds base ∷ stack)) ls) run) (sym (then_computed (and_then (powered p.1 ps) (signed p.0)) (of_two op.Pow base) env go ∙ then_computed (powered p.1 ps) (signed p.0) env (λ v. computed (of_two op.Pow base v) env go)))
      (raises ps p.1 scope line pc (Holds base ∷ stack) ls locals _ (has_front code size pc c _ has) st (λ v ms sm.
      signs_fit p.0 scope line v q (Holds base ∷ stack) ms locals _ (has_front code size q cs _ hs) sm (λ x ns sn.
      acts code h (state (q + length cs) (Holds x ∷ Holds base ∷ stack) ns) (at line (act.Binary op.Pow)) _ _ hp.0 refl
      (computes code h (of_two op.Pow base x) line locals (λ y. On (state (q + length cs + 1) (Holds y ∷ stack) ns)) go (λ y. moved code h _ _ (Holds y ∷ stack) ns (go y) end (k y ns sn))))))

  -- parts of a power in a row, beside their signs
  besides_fit : (ps : List (List Sign × Reading)) (qs : List (List Sign × Coded)) → Both FitsBeside ps qs → (scope : List Local) (line : ℕ) → IsScope scope → (done : List (List Sign × Value)) (stack : List Slot) (pc : ℕ) (ls : List (Option Value)) (locals : Locals) (go : List (List Sign × Value) → Run) → HasAt code size pc (values_code (map beside qs) scope line) → Stands size scope locals ls
      → ((vs : List (List Sign × Value)) (ms : List (Option Value)) → Stands size scope locals ms → map first vs ≡ map first done ++ map signs_of qs → Does code h (state (pc + length (values_code (map beside qs) scope line)) (onto_beside vs stack) ms) (go vs))
      → Does code h (state pc (onto_beside done stack) ls) (values_beside ps done (here h line locals) go)
  besides_fit [] [] b scope line sc done stack pc ls locals go has st k = moved code h _ _ (onto_beside done stack) ls (go done) (omega arith) (k done ls st (sym (append-nil (map first done))))
  besides_fit [] (q ∷ qs) b scope line sc done stack pc ls locals go has st k = absurd b
  besides_fit (p ∷ ps) [] b scope line sc done stack pc ls locals go has st k = absurd b
  besides_fit (p ∷ ps) (q ∷ qs) b scope line sc done stack pc ls locals go has st k =
      let is = q.1 scope line in
      let end : pc + length is + length (values_code (map beside qs) scope line) ≡ pc + length (values_code (map beside (q ∷ qs)) scope line) = omega (arith, length-append is (values_code (map beside qs) scope line)) in
      b.0.1 scope line sc pc (onto_beside done stack) ls locals _ (has_front code size pc is _ has) st (λ v ms sm.
      subst (λ (s : List Slot). Does code h (state (pc + length is) s ms) (values_beside ps (done ++ (p.0, v) ∷ []) (here h line locals) go)) (onto_beside_last done (p.0, v) stack)
      (besides_fit ps qs b.1 scope line sc (done ++ (p.0, v) ∷ []) stack (pc + length is) ms locals go (has_back code size pc is _ has) sm (λ vs ns sn e.
      moved code h _ _ (onto_beside vs stack) ns (go vs) end (k vs ns sn (e ∙ first_last done (p.0, v) (map signs_of qs) ∙ ap (λ (s : List Sign). map first done ++ s ∷ map signs_of qs) b.0.0)))))

  pub powered_fits : (p : Part) (r : lookup.Part) (ps : List (List Sign × Reading)) (qs : List (List Sign × Coded)) → PartFits r p → Both FitsBeside ps qs → AlwaysFits (λ env go. valued r env (λ v. powered_by ps v env go)) (λ scope line. (p false) scope line ++ powered_code qs scope line)
  powered_fits p r ps qs f b = behind_fits (p false) (valued r) (powered_code qs) (powered_by ps) f.0 (λ scope line sc u pc stack ls locals go has st k.
      let c = values_code (map beside qs) scope line in
      let cr = raised_code (map signs_of qs) line in
      let end : pc + length c + length cr ≡ pc + length (powered_code qs scope line) = omega (arith, length-append c cr) in
      besides_fit ps qs b scope line sc [] (Holds u ∷ stack) pc ls locals _ (has_front code size pc c _ has) st (λ vs ms sm e.
      let hr = subst (λ (ss : List (List Sign)). HasAt code size (pc + length c) (raised_code ss line)) (sym e) (has_back code size pc c _ has) in
      raises vs u scope line (pc + length c) stack ms locals go hr sm (λ v ns sn.
      let there : pc + length c + length (raised_code (map first vs) line) ≡ pc + length (powered_code qs scope line) = ap (λ (ss : List (List Sign)). pc + length c + length (raised_code ss line)) e ∙ end in
      moved code h _ _ (Holds v ∷ stack) ns (go v) there (k v ns sn))))

  -- ---- parts that decide, and conditionals

  decides_fit : (decides : Bool) (rs : List Reading) (cs : List Coded) → Both AlwaysFits rs cs → (scope : List Local) (line : ℕ) → IsScope scope → FitsBehind scope line (further_code decides cs scope line) (deciding_from decides rs)
  decides_fit decides [] [] b scope line sc u pc stack ls locals go has st k = moved code h _ _ (Holds u ∷ stack) ls (go u) (omega arith) (k u ls st)
  decides_fit decides [] (c ∷ cs) b scope line sc u pc stack ls locals go has st k = absurd b
  decides_fit decides (r ∷ rs) [] b scope line sc u pc stack ls locals go has st k = absurd b
  decides_fit decides (r ∷ rs) (c ∷ cs) b scope line sc u pc stack ls locals go has st k =
      let jump = length (c scope line ++ further_code decides cs scope line) in
      let end : pc + 1 + jump ≡ pc + length (further_code decides (c ∷ cs) scope line) = omega arith in
      acts code h (state pc (Holds u ∷ stack) ls) (at line (act.Decide decides jump)) _ _ has.0 refl
      (hits code h decides (truth u) line locals (state (pc + 1 + jump) (Holds u ∷ stack) ls) (state (pc + 1) stack ls) _ _
      (moved code h _ _ (Holds u ∷ stack) ls (go u) end (k u ls st))
      (behind_fits c r (further_code decides cs) (deciding_from decides rs) b.0 (decides_fit decides rs cs b.1) scope line sc (pc + 1) stack ls locals go has.2 st (λ v ms sm. moved code h _ _ (Holds v ∷ stack) ms (go v) end (k v ms sm))))

  pub deciding_fits : (decides : Bool) (rs : List Reading) (cs : List Coded) → Both AlwaysFits rs cs → AlwaysFits (deciding decides rs) (deciding_code decides cs)
  deciding_fits decides [] [] b scope line sc pc stack ls locals go has st k = acts code h (state pc stack ls) (at line (act.Fail TypeMismatch)) _ _ has.0 refl (Ended _)
  deciding_fits decides [] (c ∷ cs) b scope line sc pc stack ls locals go has st k = absurd b
  deciding_fits decides (r ∷ rs) [] b scope line sc pc stack ls locals go has st k = absurd b
  deciding_fits decides (r ∷ rs) (c ∷ cs) b scope line sc pc stack ls locals go has st k = behind_fits c r (further_code decides cs) (deciding_from decides rs) b.0 (decides_fit decides rs cs b.1) scope line sc pc stack ls locals go has st k

  abbrev pub FitsArm : Reading × Reading → Coded × Coded → Type 0
  FitsArm r c = AlwaysFits r.0 c.0 × AlwaysFits r.1 c.1

  pub arms_fit : (rs : List (Reading × Reading)) (cs : List (Coded × Coded)) (r : Reading) (c : Coded) → Both FitsArm rs cs → AlwaysFits r c → AlwaysFits (chosen_from rs r) (arms_code cs c)
  arms_fit [] [] r c b f scope line sc pc stack ls locals go has st k = f scope line sc pc stack ls locals go has st k
  arms_fit [] (a ∷ cs) r c b f scope line sc pc stack ls locals go has st k = absurd b
  arms_fit (x ∷ rs) [] r c b f scope line sc pc stack ls locals go has st k = absurd b
  arms_fit (x ∷ rs) (a ∷ cs) r c b f scope line sc pc stack ls locals go has st k =
      let t = a.1 scope line in
      let v = a.0 scope line in
      let rest = arms_code cs c scope line in
      let ht = has_back code size pc t _ has in
      let q = pc + length t in
      let hj = has_back code size (q + 1) v _ ht.2 in
      let end : q + 1 + length v + 1 + length rest ≡ pc + length (choice_code line t v rest) = omega (arith, length-append t (at line (act.JumpUnless (length v + 1)) ∷ (v ++ (at line (act.Jump (length rest)) ∷ rest))), length-append v (at line (act.Jump (length rest)) ∷ rest)) in
      let other : q + 1 + (length v + 1) ≡ q + 1 + length v + 1 = omega arith in
      b.0.1 scope line sc pc stack ls locals _ (has_front code size pc t _ has) st (λ u ms sm.
      acts code h (state q (Holds u ∷ stack) ms) (at line (act.JumpUnless (length v + 1))) _ _ ht.0 refl
      (tests code h (truth u) line locals (state (q + 1) stack ms) (state (q + 1 + (length v + 1)) stack ms) _ _
      (b.0.0 scope line sc (q + 1) stack ms locals go (has_front code size _ v _ ht.2) sm (λ y ns sn.
      went code h (state (q + 1 + length v) (Holds y ∷ stack) ns) (state (q + 1 + length v + 1 + length rest) (Holds y ∷ stack) ns) (at line (act.Jump (length rest))) (go y) hj.0 refl (moved code h _ _ (Holds y ∷ stack) ns (go y) end (k y ns sn))))
      (moved code h _ _ stack ms _ other (arms_fit rs cs r c b.1 f scope line sc (q + 1 + length v + 1) stack ms locals go hj.2 sm (λ y ns sn. moved code h _ _ (Holds y ∷ stack) ns (go y) end (k y ns sn))))))

  -- ---- comparisons

  abbrev pub FitsComparing : meant.Comparing → Comparing → Type 0
  FitsComparing (meant.By o r) (By p c) = (o ≡ p) × AlwaysFits r c
  FitsComparing (meant.By o r) (IsNothing a) = ⊥
  FitsComparing (meant.IsNothing a) (By p c) = ⊥
  FitsComparing (meant.IsNothing a) (IsNothing b) = a ≡ b

  -- there are instructions behind a comparison that is not the last
  linked : (c : Comparing) (cs : List Comparing) (scope : List Local) (line : ℕ) → (n : ℕ) × (length (links_code (c ∷ cs) scope line) ≡ suc n)
  linked (IsNothing a) cs scope line = (length (links_code cs scope line), refl)
  linked (By o c) cs scope line =
      let rest = links_code cs scope line in
      let long : length (links_code (By o c ∷ cs) scope line) ≡ suc (length (c scope line) + length rest) = omega (arith, length-append (c scope line) (at line (compare_action o (length rest)) ∷ rest)) in
      (length (c scope line) + length rest, long)

  links_fit : (p : meant.Comparing) (ps : List meant.Comparing) (q : Comparing) (qs : List Comparing) → FitsComparing p q → Both FitsComparing ps qs → (scope : List Local) (line : ℕ) → IsScope scope → FitsBehind scope line (links_code (q ∷ qs) scope line) (compared_from (p ∷ ps))
  links_fit (meant.By o r) ps (IsNothing a) qs f b scope line sc u pc stack ls locals go has st k = absurd f
  links_fit (meant.IsNothing a) ps (By o c) qs f b scope line sc u pc stack ls locals go has st k = absurd f
  links_fit p [] q (q' ∷ qs) f b scope line sc u pc stack ls locals go has st k = absurd b
  links_fit p (p' ∷ ps) q [] f b scope line sc u pc stack ls locals go has st k = absurd b
  links_fit (meant.By o r) [] (By p c) [] f b scope line sc u pc stack ls locals go has st k =
      let env = here h line locals in
      let is = c scope line in
      let n = pc + length is in
      let end : n + 1 ≡ pc + length (links_code (By p c ∷ []) scope line) = omega (arith, length-append is (at line (act.Compare p) ∷ [])) in
      f.1 scope line sc pc (Holds u ∷ stack) ls locals _ (has_front code size pc is _ has) st (λ v ms sm.
      subst (λ run. Does code h (state n (Holds v ∷ Holds u ∷ stack) ms) run) (sym (then_tested (of_two o u v) (go (Flag true)) (go (Flag false)) env ∙ ap (λ o. tested (holds o u v) (go (Flag true)) (go (Flag false)) env) f.0))
      (acts code h (state n (Holds v ∷ Holds u ∷ stack) ms) (at line (act.Compare p)) _ _ (has_back code size pc is _ has).0 refl
      (flags code h (holds p u v) line locals (λ x. state (n + 1) (Holds x ∷ stack) ms) go (λ x. moved code h _ _ (Holds x ∷ stack) ms (go x) end (k x ms sm)))))
  links_fit (meant.By o r) (p' ∷ ps) (By p c) (q' ∷ qs) f b scope line sc u pc stack ls locals go has st k =
      let env = here h line locals in
      let is = c scope line in
      let n = pc + length is in
      let rest = links_code (q' ∷ qs) scope line in
      let hb = has_back code size pc is _ has in
      let more = linked q' qs scope line in
      let chain : compare_action p (length rest) ≡ act.Chain p (length rest) = ap (compare_action p) more.1 ∙ ap (act.Chain p) (sym more.1) in
      let end : n + 1 + length rest ≡ pc + length (links_code (By p c ∷ q' ∷ qs) scope line) = omega (arith, length-append is (at line (compare_action p (length rest)) ∷ rest)) in
      f.1 scope line sc pc (Holds u ∷ stack) ls locals _ (has_front code size pc is _ has) st (λ v ms sm.
      subst (λ run. Does code h (state n (Holds v ∷ Holds u ∷ stack) ms) run) (sym (then_tested (of_two o u v) (compared_from (p' ∷ ps) v env go) (go (Flag false)) env ∙ ap (λ o. tested (holds o u v) (compared_from (p' ∷ ps) v env go) (go (Flag false)) env) f.0))
      (acts code h (state n (Holds v ∷ Holds u ∷ stack) ms) (at line (compare_action p (length rest))) _ _ hb.0 (ap (λ a. next_of h a line (state n (Holds v ∷ Holds u ∷ stack) ms)) chain)
      (tests code h (holds p u v) line locals (state (n + 1) (Holds v ∷ stack) ms) (state (n + 1 + length rest) (Holds (Flag false) ∷ stack) ms) _ _
      (links_fit p' ps q' qs b.0 b.1 scope line sc v (n + 1) stack ms locals go hb.2 sm (λ x ns sn. moved code h _ _ (Holds x ∷ stack) ns (go x) end (k x ns sn)))
      (moved code h _ _ (Holds (Flag false) ∷ stack) ms (go (Flag false)) end (k (Flag false) ms sm)))))
  links_fit (meant.IsNothing a) [] (IsNothing d) [] f b scope line sc u pc stack ls locals go has st k =
      subst (λ t. Does code h (state pc (Holds u ∷ stack) ls) (if beq (nothing_in (out-Value u)) t then go (Flag true) else go (Flag false))) (sym f)
      (went code h (state pc (Holds u ∷ stack) ls) (state (pc + 1) (Holds (Flag (beq (nothing_in (out-Value u)) d)) ∷ stack) ls) (at line (act.IsNone d)) _ has.0 refl (left (beq (nothing_in (out-Value u)) d)))
    where
      left : (t : Bool) → Does code h (state (pc + 1) (Holds (Flag t) ∷ stack) ls) (if t then go (Flag true) else go (Flag false))
      left true = k (Flag true) ls st
      left false = k (Flag false) ls st
  links_fit (meant.IsNothing a) (p' ∷ ps) (IsNothing d) (q' ∷ qs) f b scope line sc u pc stack ls locals go has st k =
      let env = here h line locals in
      let rest = links_code (q' ∷ qs) scope line in
      let more = linked q' qs scope line in
      let chain : none_action d (length rest) ≡ act.ChainNone d (length rest) = ap (none_action d) more.1 ∙ ap (act.ChainNone d) (sym more.1) in
      let end : pc + 1 + length rest ≡ pc + length (links_code (IsNothing d ∷ q' ∷ qs) scope line) = omega arith in
      let t = beq (nothing_in (out-Value u)) d in
      subst (λ x. Does code h (state pc (Holds u ∷ stack) ls) (if beq (nothing_in (out-Value u)) x then compared_from (p' ∷ ps) Nothing env go else go (Flag false))) (sym f)
      (went code h (state pc (Holds u ∷ stack) ls) _ (at line (none_action d (length rest))) _ has.0 (ap (λ x. next_of h x line (state pc (Holds u ∷ stack) ls)) chain)
      (to_either code h t (state (pc + 1) (Holds Nothing ∷ stack) ls) (state (pc + 1 + length rest) (Holds (Flag false) ∷ stack) ls) _ _
      (links_fit p' ps q' qs b.0 b.1 scope line sc Nothing (pc + 1) stack ls locals go has.2 st (λ x ns sn. moved code h _ _ (Holds x ∷ stack) ns (go x) end (k x ns sn)))
      (moved code h _ _ (Holds (Flag false) ∷ stack) ls (go (Flag false)) end (k (Flag false) ls st))))

  chain_fits : (ps : List meant.Comparing) (qs : List Comparing) → Both FitsComparing ps qs → (scope : List Local) (line : ℕ) → IsScope scope → FitsBehind scope line (chain_code qs scope line) (compared_from ps)
  chain_fits [] [] b scope line sc u pc stack ls locals go has st k =
      let end : pc + 1 + 1 ≡ pc + 2 = omega arith in
      went code h (state pc (Holds u ∷ stack) ls) (state (pc + 1) stack ls) (at line act.Pop) (go (Flag true)) has.0 refl
      (went code h (state (pc + 1) stack ls) (state (pc + 1 + 1) (Holds (Flag true) ∷ stack) ls) (at line (act.Const (Flag true))) (go (Flag true)) has.2.0 refl (moved code h _ _ (Holds (Flag true) ∷ stack) ls (go (Flag true)) end (k (Flag true) ls st)))
  chain_fits [] (q ∷ qs) b scope line sc u pc stack ls locals go has st k = absurd b
  chain_fits (p ∷ ps) [] b scope line sc u pc stack ls locals go has st k = absurd b
  chain_fits (p ∷ ps) (q ∷ qs) b scope line sc u pc stack ls locals go has st k = links_fit p ps q qs b.0 b.1 scope line sc u pc stack ls locals go has st k

  pub compared_fits : (p : Part) (r : lookup.Part) (ps : List meant.Comparing) (qs : List Comparing) → PartFits r p → Both FitsComparing ps qs → AlwaysFits (λ env go. valued r env (λ v. compared_from ps v env go)) (λ scope line. (p false) scope line ++ chain_code qs scope line)
  compared_fits p r ps qs f b = behind_fits (p false) (valued r) (chain_code qs) (compared_from ps) f.0 (chain_fits ps qs b)

  pub lit_fits : (v : Value) → AlwaysFits (λ env go. go v) (λ scope line. at line (act.Const v) ∷ [])
  lit_fits v scope line sc pc stack ls locals go has st k = went code h (state pc stack ls) (state (pc + 1) (Holds v ∷ stack) ls) (at line (act.Const v)) (go v) has.0 refl (k v ls st)
