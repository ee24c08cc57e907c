-- Each form of statement, by its parts.
use Rattle.std.proofs.Common.{◌≡◌, ℕ, ◌+◌, ◌-◌, List, [], ◌∷◌, ◌++◌, length, map, Option, Some, None, refl, sym, ap, ◌∙◌, subst, arith, length-append, false}
use Rattle.std.specs.Prelude.{slice_get, slice_set}
use Rattle.mx_value.specs.declared.label.Label.{Label}
use Rattle.mx_value.specs.declared.value.Value.{Value}
use Rattle.mx_value.specs.declared.value.Value.TheVariants.{Nothing}
use Rattle.mx_syntax.specs.declared.expr.Expr.{Expr}
use Rattle.mx_syntax.specs.declared.stmt.ArithOp.{ArithOp}
use Rattle.mx_syntax.specs.declared.stmt.ArithOp.TheVariants as arithmetic
use Rattle.mx_syntax.specs.declared.stmt.ItemEntry.{ItemEntry}
use Rattle.mx_syntax.specs.declared.stmt.ItemEntry.TheVariants as entry
use Rattle.mx_ops.specs.Kinds.{items_of}
use Rattle.mx_ops.specs.Truth.{truth}
use Rattle.mx_runs.specs.Runs.{Run}
use Rattle.mx_meaning.specs.Namespaces.{Overlay}
use Rattle.mx_meaning.specs.Environments.{Env, Locals, Reading, computed, tested, set_in, with_local, at_line}
use Rattle.mx_meaning.specs.Lookup.{named, valued}
use Rattle.mx_meaning.specs.Operations.{changing, of_two}
use Rattle.mx_meaning.specs.Expressions.{reading, values_beside, items_or_fault}
use Rattle.mx_meaning.specs.Statements.{Returned, Plain, Display, Doing, Done, named_reading, displayed_from, done_from, looped_from}
use Rattle.mx_code.specs.declared.action.Instr.{Instr}
use Rattle.mx_code.specs.declared.action.Local.{Local}
use Rattle.mx_code.specs.declared.action.Action.TheVariants as act
use Rattle.mx_code.specs.Names.{place_of}
use Rattle.mx_code.specs.Operators.{change_op}
use Rattle.mx_code.specs.Expressions.{at, name_code, choice_code, rounds_code, expr_code}
use Rattle.mx_code.specs.Statements.{store_action, nothing_code, refs_code, entries_code, return_code, display_code, assign_code, change_code, turns_code}
use Rattle.mx_code_law.specs.States.{Slot, Holds, Items, Shown, state, On, Home}
use Rattle.mx_code_law.specs.Machine.{Does}
use Rattle.mx_code_law.specs.Fits.{HasAt, IsScope, Stands, here, Fits, Returns, DoesFit}
use Rattle.mx_code_law.proofs.Places.{has_front, has_back}
use Rattle.mx_code_law.proofs.Locals.{stands_set}
use Rattle.mx_code_law.proofs.Steps.{acts, went, computes, tests, moved}
use Rattle.mx_code_law.proofs.Generators.{iterates}
use Rattle.mx_code_law.proofs.Names.{name_fits}
use Rattle.mx_code_law.proofs.Trees.{expr_fits}

same_change : (o : ArithOp) → changing o ≡ change_op o
same_change arithmetic.Add = refl
same_change arithmetic.Sub = refl
same_change arithmetic.Mul = refl

module _ (code : List Instr) (h : Home) (size : ℕ) where
  -- ---- returns

  pub return_does : (line pc : ℕ) (stack : List Slot) (ls : List (Option Value)) (v : Value) (back : Returned → Run) → Returns code h back → slice_get code pc ≡ Some (at line act.Return) → Does code h (state pc (Holds v ∷ stack) ls) (back (Plain v))
  return_does line pc stack ls v back r has = acts code h (state pc (Holds v ∷ stack) ls) (at line act.Return) _ _ has refl (r (Plain v))

  pub nothing_does : (line pc : ℕ) (stack : List Slot) (ls : List (Option Value)) (back : Returned → Run) → Returns code h back → HasAt code size pc (nothing_code line) → Does code h (state pc stack ls) (back (Plain Nothing))
  nothing_does line pc stack ls back r has = went code h (state pc stack ls) (state (pc + 1) (Holds Nothing ∷ stack) ls) (at line (act.Const Nothing)) _ has.0 refl (return_does line (pc + 1) stack ls Nothing back r has.2.0)

  pub nothing_fits : (scope : List Local) (line : ℕ) → DoesFit code h size scope (nothing_code line) (λ env after back. back (Plain Nothing))
  nothing_fits scope line pc stack ls l locals after back has st r k = nothing_does line pc stack ls back r has

  pub returns_fit : (e : Expr) (scope : List Local) (line : ℕ) → IsScope scope → DoesFit code h size scope (return_code (Some e) scope line) (λ env after back. reading e (at_line line env) (λ v. back (Plain v)))
  returns_fit e scope line sc pc stack ls l locals after back has st r k =
      let c = expr_code e scope line in
      expr_fits code h size e scope line sc pc stack ls locals _ (has_front code size pc c _ has) st (λ v ms sm. return_does line (pc + length c) stack ms v back r (has_back code size pc c _ has).0)

  -- ---- displays

  refs_fit : (more : List (Label × Expr)) (scope : List Local) (line : ℕ) → IsScope scope → (refs : Overlay) (base : Option Value) (pc : ℕ) (stack : List Slot) (ls : List (Option Value)) (locals : Locals) (go : Overlay → Run) → HasAt code size pc (refs_code more scope line) → Stands size scope locals ls
      → ((all : Overlay) (ms : List (Option Value)) → Stands size scope locals ms → Does code h (state (pc + length (refs_code more scope line)) (Shown all base ∷ stack) ms) (go all))
      → Does code h (state pc (Shown refs base ∷ stack) ls) (values_beside (map named_reading more) refs (here h line locals) go)
  refs_fit [] scope line sc refs base pc stack ls locals go has st k = moved code h _ _ (Shown refs base ∷ stack) ls (go refs) (omega arith) (k refs ls st)
  refs_fit (x ∷ more) scope line sc refs base pc stack ls locals go has st k =
      let c = expr_code x.1 scope line in
      let n = pc + length c in
      let hb = has_back code size pc c _ has in
      let end : n + 1 + length (refs_code more scope line) ≡ pc + length (refs_code (x ∷ more) scope line) = omega (arith, length-append c (at line (act.Refer x.0) ∷ refs_code more scope line)) in
      expr_fits code h size x.1 scope line sc pc (Shown refs base ∷ stack) ls locals _ (has_front code size pc c _ has) st (λ v ms sm.
      went code h (state n (Holds v ∷ Shown refs base ∷ stack) ms) (state (n + 1) (Shown (refs ++ (x.0, v) ∷ []) base ∷ stack) ms) (at line (act.Refer x.0)) _ hb.0 refl
      (refs_fit more scope line sc (refs ++ (x.0, v) ∷ []) base (n + 1) stack ms locals go hb.2 sm (λ all ns sn. moved code h _ _ (Shown all base ∷ stack) ns (go all) end (k all ns sn))))

  entries_fit : (entries : List ItemEntry) (scope : List Local) (line : ℕ) → IsScope scope → (refs : Overlay) (base : Option Value) (pc : ℕ) (stack : List Slot) (ls : List (Option Value)) (locals : Locals) (back : Returned → Run) → HasAt code size pc (entries_code entries scope line) → Stands size scope locals ls
      → ((all : Overlay) (b : Option Value) (ms : List (Option Value)) → Stands size scope locals ms → Does code h (state (pc + length (entries_code entries scope line)) (Shown all b ∷ stack) ms) (back (Display all b)))
      → Does code h (state pc (Shown refs base ∷ stack) ls) (displayed_from entries refs base (here h line locals) back)
  entries_fit [] scope line sc refs base pc stack ls locals back has st k = moved code h _ _ (Shown refs base ∷ stack) ls (back (Display refs base)) (omega arith) (k refs base ls st)
  entries_fit (entry.Refs more ∷ entries) scope line sc refs base pc stack ls locals back has st k =
      let c = refs_code more scope line in
      let rest = entries_code entries scope line in
      let end : pc + length c + length rest ≡ pc + length (entries_code (entry.Refs more ∷ entries) scope line) = omega (arith, length-append c rest) in
      refs_fit more scope line sc refs base pc stack ls locals _ (has_front code size pc c _ has) st (λ all ms sm.
      entries_fit entries scope line sc all base (pc + length c) stack ms locals back (has_back code size pc c _ has) sm (λ a b ns sn. moved code h _ _ (Shown a b ∷ stack) ns (back (Display a b)) end (k a b ns sn)))
  entries_fit (entry.Base e ∷ entries) scope line sc refs base pc stack ls locals back has st k =
      let c = expr_code e scope line in
      let n = pc + length c in
      let rest = entries_code entries scope line in
      let hb = has_back code size pc c _ has in
      let end : n + 1 + length rest ≡ pc + length (entries_code (entry.Base e ∷ entries) scope line) = omega (arith, length-append c (at line act.Base ∷ rest)) in
      expr_fits code h size e scope line sc pc (Shown refs base ∷ stack) ls locals _ (has_front code size pc c _ has) st (λ v ms sm.
      went code h (state n (Holds v ∷ Shown refs base ∷ stack) ms) (state (n + 1) (Shown refs (Some v) ∷ stack) ms) (at line act.Base) _ hb.0 refl
      (entries_fit entries scope line sc refs (Some v) (n + 1) stack ms locals back hb.2 sm (λ a b ns sn. moved code h _ _ (Shown a b ∷ stack) ns (back (Display a b)) end (k a b ns sn))))

  pub displays_fit : (entries : List ItemEntry) (scope : List Local) (line : ℕ) → IsScope scope → DoesFit code h size scope (display_code entries scope line) (λ env after back. displayed_from entries [] None (at_line line env) back)
  displays_fit entries scope line sc pc stack ls l locals after back has st r k =
      let c = entries_code entries scope line in
      went code h (state pc stack ls) (state (pc + 1) (Shown [] None ∷ stack) ls) (at line act.Display) _ has.0 refl
      (entries_fit entries scope line sc [] None (pc + 1) stack ls locals back (has_front code size (pc + 1) c _ has.2) st (λ all b ms sm.
      acts code h (state (pc + 1 + length c) (Shown all b ∷ stack) ms) (at line act.ReturnDisplay) _ _ (has_back code size (pc + 1) c _ has.2).0 refl (r (Display all b))))

  -- ---- locals

  -- a value is put into a local
  store_does : (name : Label) (scope : List Local) (line pc : ℕ) (stack : List Slot) (ls : List (Option Value)) (locals : Locals) (v : Value) (run : Run) → IsScope scope → ((place : ℕ) × (place_of scope name ≡ Some place)) → slice_get code pc ≡ Some (at line (store_action (place_of scope name))) → Stands size scope locals ls
      → ((ms : List (Option Value)) → Stands size scope (set_in locals name v) ms → Does code h (state (pc + 1) stack ms) run) → Does code h (state pc (Holds v ∷ stack) ls) run
  store_does name scope line pc stack ls locals v run sc p has st k =
      went code h (state pc (Holds v ∷ stack) ls) (state (pc + 1) stack (slice_set ls p.0 (Some v))) (at line (act.Store p.0)) _ (has ∙ ap (λ o. Some (at line (store_action o))) p.1) refl (k _ (stands_set size scope locals ls name p.0 v sc st p.1))

  pub assign_fits : (name : Label) (e : Expr) (scope : List Local) (line : ℕ) → IsScope scope → ((place : ℕ) × (place_of scope name ≡ Some place)) → DoesFit code h size scope (assign_code name e scope line) (λ env after back. reading e (at_line line env) (λ v. after (with_local name v (at_line line env))))
  assign_fits name e scope line sc p pc stack ls l locals after back has st r k =
      let c = expr_code e scope line in
      let end : pc + length c + 1 ≡ pc + length (assign_code name e scope line) = omega (arith, length-append c (at line (store_action (place_of scope name)) ∷ [])) in
      expr_fits code h size e scope line sc pc stack ls locals _ (has_front code size pc c _ has) st (λ v ms sm.
      store_does name scope line (pc + length c) stack ms locals v _ sc p (has_back code size pc c _ has).0 sm (λ ns sn. moved code h _ _ stack ns _ end (k line (set_in locals name v) ns sn)))

  pub change_fits : (name : Label) (o : ArithOp) (e : Expr) (scope : List Local) (line : ℕ) → IsScope scope → ((place : ℕ) × (place_of scope name ≡ Some place))
      → DoesFit code h size scope (change_code name o e scope line) (λ env after back. valued (named name) (at_line line env) (λ old. reading e (at_line line env) (λ v. computed (of_two (changing o) old v) (at_line line env) (λ x. after (with_local name x (at_line line env))))))
  change_fits name o e scope line sc p pc stack ls l locals after back has st r k =
      let n = name_code name false scope line in
      let c = expr_code e scope line in
      let hc = has_back code size pc n _ has in
      let q = pc + length n in
      let s = q + length c in
      let ho = has_back code size q c _ hc in
      let tail = at line (act.Binary (change_op o)) ∷ at line (store_action (place_of scope name)) ∷ [] in
      let end : s + 1 + 1 ≡ pc + length (change_code name o e scope line) = omega (arith, length-append n (c ++ tail), length-append c tail) in
      name_fits code h size name scope line sc pc stack ls locals _ (has_front code size pc n _ has) st (λ u ms sm.
      expr_fits code h size e scope line sc q (Holds u ∷ stack) ms locals _ (has_front code size q c _ hc) sm (λ v ns sn.
      subst (λ (op : _). Does code h (state s (Holds v ∷ Holds u ∷ stack) ns) (computed (of_two op u v) (here h line locals) (λ x. after (here h line (set_in locals name x))))) (sym (same_change o))
      (acts code h (state s (Holds v ∷ Holds u ∷ stack) ns) (at line (act.Binary (change_op o))) _ _ ho.0 refl
      (computes code h (of_two (change_op o) u v) line locals (λ x. On (state (s + 1) (Holds x ∷ stack) ns)) _ (λ x.
      store_does name scope line (s + 1) stack ns locals x _ sc p ho.2.0 sn (λ os so. moved code h _ _ stack os _ end (k line (set_in locals name x) os so)))))))

  -- ---- choices and loops

  -- a test, what is done where it holds, and what else
  pub choice_does : (t : Reading) (given other : Doing) (ct cg co : List Instr) (scope : List Local) (line : ℕ) → Fits code h size scope line ct t → DoesFit code h size scope cg given → DoesFit code h size scope co other
      → DoesFit code h size scope (choice_code line ct cg co) (λ env after back. t (at_line line env) (λ v. tested (truth v) (given env after back) (other env after back) (at_line line env)))
  choice_does t given other ct cg co scope line ft fg fo pc stack ls l locals after back has st r k =
      let ht = has_back code size pc ct _ has in
      let q = pc + length ct in
      let hj = has_back code size (q + 1) cg _ ht.2 in
      let end : q + 1 + length cg + 1 + length co ≡ pc + length (choice_code line ct cg co) = omega (arith, length-append ct (at line (act.JumpUnless (length cg + 1)) ∷ (cg ++ (at line (act.Jump (length co)) ∷ co))), length-append cg (at line (act.Jump (length co)) ∷ co)) in
      let past : q + 1 + (length cg + 1) ≡ q + 1 + length cg + 1 = omega arith in
      ft pc stack ls locals _ (has_front code size pc ct _ has) st (λ v ms sm.
      acts code h (state q (Holds v ∷ stack) ms) (at line (act.JumpUnless (length cg + 1))) _ _ ht.0 refl
      (tests code h (truth v) line locals (state (q + 1) stack ms) (state (q + 1 + (length cg + 1)) stack ms) _ _
      (fg (q + 1) stack ms l locals after back (has_front code size _ cg _ ht.2) sm r (λ m more ns sn.
      went code h (state (q + 1 + length cg) stack ns) (state (q + 1 + length cg + 1 + length co) stack ns) (at line (act.Jump (length co))) _ hj.0 refl (moved code h _ _ stack ns _ end (k m more ns sn))))
      (moved code h _ _ stack ms _ past (fo (q + 1 + length cg + 1) stack ms l locals after back hj.2 sm r (λ m more ns sn. moved code h _ _ stack ns _ end (k m more ns sn))))))

  pub none_fits : (scope : List Local) → DoesFit code h size scope [] (λ env after back. after env)
  none_fits scope pc stack ls l locals after back has st r k = moved code h _ _ stack ls _ (omega arith) (k l locals ls st)

  -- what is done for each of these items, the name set before each
  pub turns_fit : (name : Label) (place : ℕ) (scope : List Local) (line : ℕ) → IsScope scope → place_of scope name ≡ Some place → (body : List Done) (inner : ℕ) (c : List Instr) → DoesFit code h size scope c (done_from body inner) → (vs : List Value) (pc : ℕ) (stack : List Slot) (ls : List (Option Value)) (l : ℕ) (locals : Locals) (after : Env → Run) (back : Returned → Run) → HasAt code size pc (rounds_code line place c (act.Back (length c + 1))) → Stands size scope locals ls → Returns code h back
      → ((m : ℕ) (more : Locals) (ms : List (Option Value)) → Stands size scope more ms → Does code h (state (pc + length (rounds_code line place c (act.Back (length c + 1)))) stack ms) (after (here h m more)))
      → Does code h (state pc (Items vs ∷ stack) ls) (looped_from name body vs inner (here h l locals) after back)
  turns_fit name place scope line sc is body inner c f [] pc stack ls l locals after back has st r k =
      let end : pc + 1 + (length c + 1) ≡ pc + length (rounds_code line place c (act.Back (length c + 1))) = omega (arith, length-append c (at line (act.Back (length c + 1)) ∷ [])) in
      went code h (state pc (Items [] ∷ stack) ls) (state (pc + 1 + (length c + 1)) stack ls) (at line (act.NextItem place (length c + 1))) _ has.0 refl (moved code h _ _ stack ls _ end (k l locals ls st))
  turns_fit name place scope line sc is body inner c f (v ∷ vs) pc stack ls l locals after back has st r k =
      let again : pc + 1 + length c - (length c + 1) ≡ pc = omega arith in
      went code h (state pc (Items (v ∷ vs) ∷ stack) ls) (state (pc + 1) (Items vs ∷ stack) (slice_set ls place (Some v))) (at line (act.NextItem place (length c + 1))) _ has.0 refl
      (f (pc + 1) (Items vs ∷ stack) _ l (set_in locals name v) _ back (has_front code size (pc + 1) c _ has.2) (stands_set size scope locals ls name place v sc st is) r (λ m more ns sn.
      went code h (state (pc + 1 + length c) (Items vs ∷ stack) ns) (state (pc + 1 + length c - (length c + 1)) (Items vs ∷ stack) ns) (at line (act.Back (length c + 1))) _ (has_back code size (pc + 1) c _ has.2).0 refl
      (moved code h _ _ (Items vs ∷ stack) ns _ again (turns_fit name place scope line sc is body inner c f vs pc stack ns m more after back has sn r k))))

  pub loops_fit : (name : Label) (over : Expr) (place : ℕ) (scope : List Local) (line : ℕ) → IsScope scope → place_of scope name ≡ Some place → (body : List Done) (c : List Instr) → DoesFit code h size scope c (done_from body (line + 1))
      → DoesFit code h size scope (expr_code over scope line ++ (at line act.Iterate ∷ turns_code (place_of scope name) line c)) (λ env after back. reading over (at_line line env) (λ v. items_or_fault (items_of v) (at_line line env) (λ items. looped_from name body items (line + 1) (at_line line env) after back)))
  loops_fit name over place scope line sc is body c f pc stack ls l locals after back has st r k =
      let co = expr_code over scope line in
      let q = pc + length co in
      let rounds = rounds_code line place c (act.Back (length c + 1)) in
      let hi = has_back code size pc co _ has in
      let turns = turns_code (place_of scope name) line c in
      let same : turns ≡ rounds = ap (λ o. turns_code o line c) is in
      let hr = subst (λ (t : List Instr). HasAt code size (q + 1) t) same hi.2 in
      let long : length turns ≡ length rounds = ap (λ (t : List Instr). length t) same in
      let end : q + 1 + length rounds ≡ pc + length (co ++ (at line act.Iterate ∷ turns)) = omega (arith, long, length-append co (at line act.Iterate ∷ turns)) in
      expr_fits code h size over scope line sc pc stack ls locals _ (has_front code size pc co _ has) st (λ v ms sm.
      iterates code h size v line q stack ms locals _ hi.0 (λ vs.
      turns_fit name place scope line sc is body (line + 1) c f vs (q + 1) stack ms line locals after back hr sm r (λ m more ns sn. moved code h _ _ stack ns _ end (k m more ns sn))))
