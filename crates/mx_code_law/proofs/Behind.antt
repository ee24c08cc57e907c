-- What stands behind a part.
use Rattle.std.proofs.Common.{◌≡◌, ℕ, ◌+◌, List, [], ◌∷◌, ◌++◌, length, Option, refl, sym, subst, arith, length-append, Bool, true, false}
use Rattle.mx_value.specs.declared.label.Label.{Label}
use Rattle.mx_value.specs.declared.value.Value.{Value}
use Rattle.mx_runs.specs.Runs.{Run}
use Rattle.mx_meaning.specs.Environments.{Locals}
use Rattle.mx_meaning.specs.Lookup.{Callee, Called, Function, valued, attribute}
use Rattle.mx_meaning.specs.Lookup as lookup
use Rattle.mx_meaning.specs.Expressions.{called_over, applied, applied_from}
use Rattle.mx_meaning.specs.Expressions as meant
use Rattle.mx_code.specs.declared.action.Instr.{Instr}
use Rattle.mx_code.specs.declared.action.Local.{Local}
use Rattle.mx_code.specs.declared.action.Action.TheVariants as act
use Rattle.mx_code.specs.Expressions.{at, Part, values_code, Generator, item_code, rounds_code, over_code, Behind, Call, Over, Index, Attr, behind_code, trailed_code, called_before, post_part}
use Rattle.mx_code_law.specs.States.{Slot, Holds, Collected, slot_of, state, Home}
use Rattle.mx_code_law.specs.Machine.{deciding_truth, Does}
use Rattle.mx_code_law.specs.Fits.{HasAt, IsScope, Stands, here}
use Rattle.mx_code_law.proofs.Places.{has_front, has_back}
use Rattle.mx_code_law.proofs.Steps.{went, moved}
use Rattle.mx_code_law.proofs.Forms.{Both, AlwaysFits, PartFits, values_fit}
use Rattle.mx_code_law.proofs.Generators.{by_truth, FitsGenerator, iterates, over_items}
use Rattle.mx_code_law.proofs.Names.{attribute_is, call_is, index_is}

-- a function that a formula can always call is only called
abbrev Takes : meant.Behind → Callee → Type 0
Takes (meant.Index args) (Function b) = ⊥
Takes (meant.Attr name) (Function b) = ⊥
Takes b c = Unit {0}

module _ (code : List Instr) (h : Home) (size : ℕ) where
  over_fits : (g : meant.Generator) (d : Generator) → FitsGenerator code h size g d → (scope : List Local) (line : ℕ) → IsScope scope → (c : Callee) (pc : ℕ) (stack : List Slot) (ls : List (Option Value)) (locals : Locals) (go : Value → Run) → HasAt code size pc (over_code d scope line) → Stands size scope locals ls
      → ((v : Value) (ms : List (Option Value)) → Stands size scope locals ms → Does code h (state (pc + length (over_code d scope line)) (Holds v ∷ stack) ms) (go v))
      → Does code h (state pc (slot_of c ∷ stack) ls) (called_over c g (here h line locals) go)
  over_fits g d f scope line sc c pc stack ls locals go has st k =
      let co = d.over scope line in
      let body = item_code d scope line in
      let rounds = rounds_code line (length scope) body (act.Collect (length body + 1)) in
      let call = at line act.Made ∷ at line (act.Call 1) ∷ [] in
      let p = pc + 1 + length co in
      let hi = has_back code size (pc + 1) co _ has.2 in
      let q = p + 1 in
      let past = q + 1 + length body + 1 in
      let inner : length rounds ≡ 1 + (length body + 1) = omega (arith, length-append body (at line (act.Collect (length body + 1)) ∷ [])) in
      let all : past + 2 ≡ pc + length (over_code d scope line) = omega (arith, inner, length-append co (at line act.Iterate ∷ (rounds ++ call)), length-append rounds call) in
      let there : past ≡ q + length rounds = omega (arith, inner) in
      let hc = subst (λ n. HasAt code size n call) (sym there) (has_back code size q rounds call hi.2) in
      let last : past + 1 + 1 ≡ past + 2 = omega arith in
      let on : (v : Value) (ms : List (Option Value)) → Stands size scope locals ms → Does code h (state (past + 2) (Holds v ∷ stack) ms) (go v) = λ v ms sm. moved code h _ _ (Holds v ∷ stack) ms (go v) all (k v ms sm) in
      subst (λ run. Does code h (state pc (slot_of c ∷ stack) ls) run) (sym (by_truth c g (here h line locals) go))
      (went code h (state pc (slot_of c ∷ stack) ls) (state (pc + 1) (Collected [] ∷ slot_of c ∷ stack) ls) (at line act.Gather) _ has.0 refl
      (f.2 scope line sc (pc + 1) (Collected [] ∷ slot_of c ∷ stack) ls locals _ (has_front code size (pc + 1) co _ has.2) st (λ v ms sm.
      iterates code h size v line p (Collected [] ∷ slot_of c ∷ stack) ms locals _ hi.0 (λ vs.
      over_items code h size c g d f scope line sc q stack locals hi.2 go on
      (λ w ns sn. call_is code h size line (past + 1) stack ns locals go (λ x. moved code h _ _ (Holds x ∷ stack) ns (go x) last (on x ns sn)) c (w ∷ []) 1 refl hc.2.0)
      (deciding_truth c) refl vs ms sm))))

  abbrev pub FitsTrailer : meant.Behind → Behind → Type 0
  FitsTrailer (meant.Call rs) (Call cs) = Both (AlwaysFits code h size) rs cs
  FitsTrailer (meant.Over g) (Over d) = FitsGenerator code h size g d
  FitsTrailer (meant.Index rs) (Index cs) = Both (AlwaysFits code h size) rs cs
  FitsTrailer (meant.Attr a) (Attr b) = a ≡ b
  FitsTrailer b d = ⊥

  applies : (b : meant.Behind) (d : Behind) → FitsTrailer b d → (scope : List Local) (line : ℕ) → IsScope scope → (c : Callee) → Takes b c → (pc : ℕ) (stack : List Slot) (ls : List (Option Value)) (locals : Locals) (go : Value → Run) → HasAt code size pc (behind_code d scope line) → Stands size scope locals ls
      → ((v : Value) (ms : List (Option Value)) → Stands size scope locals ms → Does code h (state (pc + length (behind_code d scope line)) (Holds v ∷ stack) ms) (go v))
      → Does code h (state pc (slot_of c ∷ stack) ls) (applied b c (here h line locals) go)
  applies (meant.Call rs) (Call cs) f scope line sc c t pc stack ls locals go has st k =
      let is = values_code cs scope line in
      let p = pc + length is in
      let end : p + 1 ≡ pc + length (behind_code (Call cs) scope line) = omega (arith, length-append is (at line (act.Call (length cs)) ∷ [])) in
      values_fit code h size rs cs f scope line sc [] (slot_of c ∷ stack) pc ls locals _ (has_front code size pc is _ has) st (λ vs ms sm e.
      call_is code h size line p stack ms locals go (λ v. moved code h _ _ (Holds v ∷ stack) ms (go v) end (k v ms sm)) c vs (length cs) (omega (arith, e)) (has_back code size pc is _ has).0)
  applies (meant.Over g) (Over d) f scope line sc c t pc stack ls locals go has st k = over_fits g d f scope line sc c pc stack ls locals go has st k
  applies (meant.Index rs) (Index cs) f scope line sc (Function b) t pc stack ls locals go has st k = absurd t
  applies (meant.Index rs) (Index cs) f scope line sc (Called u) t pc stack ls locals go has st k =
      let is = values_code cs scope line in
      let p = pc + length is in
      let end : p + 1 ≡ pc + length (behind_code (Index cs) scope line) = omega (arith, length-append is (at line (act.Index (length cs)) ∷ [])) in
      values_fit code h size rs cs f scope line sc [] (Holds u ∷ stack) pc ls locals _ (has_front code size pc is _ has) st (λ vs ms sm e.
      index_is code h size line p stack ms locals go (λ v. moved code h _ _ (Holds v ∷ stack) ms (go v) end (k v ms sm)) u vs (length cs) (omega (arith, e)) (has_back code size pc is _ has).0)
  applies (meant.Attr a) (Attr b) f scope line sc (Function x) t pc stack ls locals go has st k = absurd t
  applies (meant.Attr a) (Attr b) f scope line sc (Called u) t pc stack ls locals go has st k =
      subst (λ (name : Label). Does code h (state pc (Holds u ∷ stack) ls) (attribute u name (here h line locals) go)) (sym f) (attribute_is code h size line pc stack ls locals go (λ v. k v ls st) u b has.0)
  applies (meant.Call rs) (Over d) f scope line sc c t pc stack ls locals go has st k = absurd f
  applies (meant.Call rs) (Index cs) f scope line sc c t pc stack ls locals go has st k = absurd f
  applies (meant.Call rs) (Attr b) f scope line sc c t pc stack ls locals go has st k = absurd f
  applies (meant.Over g) (Call cs) f scope line sc c t pc stack ls locals go has st k = absurd f
  applies (meant.Over g) (Index cs) f scope line sc c t pc stack ls locals go has st k = absurd f
  applies (meant.Over g) (Attr b) f scope line sc c t pc stack ls locals go has st k = absurd f
  applies (meant.Index rs) (Call cs) f scope line sc c t pc stack ls locals go has st k = absurd f
  applies (meant.Index rs) (Over d) f scope line sc c t pc stack ls locals go has st k = absurd f
  applies (meant.Index rs) (Attr b) f scope line sc c t pc stack ls locals go has st k = absurd f
  applies (meant.Attr a) (Call cs) f scope line sc c t pc stack ls locals go has st k = absurd f
  applies (meant.Attr a) (Over d) f scope line sc c t pc stack ls locals go has st k = absurd f
  applies (meant.Attr a) (Index cs) f scope line sc c t pc stack ls locals go has st k = absurd f

  takes_values : (b : meant.Behind) (v : Value) → Takes b (Called v)
  takes_values (meant.Call rs) v = tt
  takes_values (meant.Over g) v = tt
  takes_values (meant.Index rs) v = tt
  takes_values (meant.Attr a) v = tt

  -- what stands behind a value
  trails : (bs : List meant.Behind) (ds : List Behind) → Both FitsTrailer bs ds → (scope : List Local) (line : ℕ) → IsScope scope → (u : Value) (pc : ℕ) (stack : List Slot) (ls : List (Option Value)) (locals : Locals) (go : Callee → Run) → HasAt code size pc (trailed_code ds scope line) → Stands size scope locals ls
      → ((v : Value) (ms : List (Option Value)) → Stands size scope locals ms → Does code h (state (pc + length (trailed_code ds scope line)) (Holds v ∷ stack) ms) (go (Called v)))
      → Does code h (state pc (Holds u ∷ stack) ls) (applied_from bs (Called u) (here h line locals) go)
  trails [] [] f scope line sc u pc stack ls locals go has st k = moved code h _ _ (Holds u ∷ stack) ls (go (Called u)) (omega arith) (k u ls st)
  trails [] (d ∷ ds) f scope line sc u pc stack ls locals go has st k = absurd f
  trails (b ∷ bs) [] f scope line sc u pc stack ls locals go has st k = absurd f
  trails (b ∷ bs) (d ∷ ds) f scope line sc u pc stack ls locals go has st k =
      let is = behind_code d scope line in
      let end : pc + length is + length (trailed_code ds scope line) ≡ pc + length (trailed_code (d ∷ ds) scope line) = omega (arith, length-append is (trailed_code ds scope line)) in
      applies b d f.0 scope line sc (Called u) (takes_values b u) pc stack ls locals _ (has_front code size pc is _ has) st (λ v ms sm.
      trails bs ds f.1 scope line sc v (pc + length is) stack ms locals go (has_back code size pc is _ has) sm (λ w ns sn. moved code h _ _ (Holds w ∷ stack) ns (go (Called w)) end (k w ns sn)))

  -- and behind what is called
  trails_called : (b : meant.Behind) (bs : List meant.Behind) (d : Behind) (ds : List Behind) → FitsTrailer b d → Both FitsTrailer bs ds → (scope : List Local) (line : ℕ) → IsScope scope → (c : Callee) → Takes b c → (pc : ℕ) (stack : List Slot) (ls : List (Option Value)) (locals : Locals) (go : Callee → Run) → HasAt code size pc (trailed_code (d ∷ ds) scope line) → Stands size scope locals ls
      → ((v : Value) (ms : List (Option Value)) → Stands size scope locals ms → Does code h (state (pc + length (trailed_code (d ∷ ds) scope line)) (Holds v ∷ stack) ms) (go (Called v)))
      → Does code h (state pc (slot_of c ∷ stack) ls) (applied_from (b ∷ bs) c (here h line locals) go)
  trails_called b bs d ds f fs scope line sc c t pc stack ls locals go has st k =
      let is = behind_code d scope line in
      let end : pc + length is + length (trailed_code ds scope line) ≡ pc + length (trailed_code (d ∷ ds) scope line) = omega (arith, length-append is (trailed_code ds scope line)) in
      applies b d f scope line sc c t pc stack ls locals _ (has_front code size pc is _ has) st (λ v ms sm.
      trails bs ds fs scope line sc v (pc + length is) stack ms locals go (has_back code size pc is _ has) sm (λ w ns sn. moved code h _ _ (Holds w ∷ stack) ns (go (Called w)) end (k w ns sn)))

  -- a part with what stands behind it
  posts : (called : Bool) (p : Part) (r : lookup.Part) → PartFits code h size r p → (b : meant.Behind) (bs : List meant.Behind) (d : Behind) (ds : List Behind) → FitsTrailer b d → Both FitsTrailer bs ds → (scope : List Local) (line : ℕ) → IsScope scope → (pc : ℕ) (stack : List Slot) (ls : List (Option Value)) (locals : Locals) (go : Callee → Run) → HasAt code size pc (p (called_before (d ∷ ds) called) scope line ++ trailed_code (d ∷ ds) scope line) → Stands size scope locals ls
      → ((v : Value) (ms : List (Option Value)) → Stands size scope locals ms → Does code h (state (pc + length (p (called_before (d ∷ ds) called) scope line ++ trailed_code (d ∷ ds) scope line)) (Holds v ∷ stack) ms) (go (Called v)))
      → Does code h (state pc stack ls) (r (here h line locals) (λ c. applied_from (b ∷ bs) c (here h line locals) go))
  posts called p r f b bs d ds fd fs scope line sc pc stack ls locals go has st k =
      let c = p (called_before (d ∷ ds) called) scope line in
      let n = pc + length c in
      let rest = trailed_code (d ∷ ds) scope line in
      let end : n + length rest ≡ pc + length (c ++ rest) = omega (arith, length-append c rest) in
      let on : (u : Callee) → Takes b u → (ms : List (Option Value)) → Stands size scope locals ms → Does code h (state n (slot_of u ∷ stack) ms) (applied_from (b ∷ bs) u (here h line locals) go)
      = λ u t ms sm. trails_called b bs d ds fd fs scope line sc u t n stack ms locals go (has_back code size pc c rest has) sm (λ w ns sn. moved code h _ _ (Holds w ∷ stack) ns (go (Called w)) end (k w ns sn)) in
      heads called p r f b bs d ds fd scope line sc pc stack ls locals go (has_front code size pc c rest has) st on
    where
      heads : (called : Bool) (p : Part) (r : lookup.Part) → PartFits code h size r p → (b : meant.Behind) (bs : List meant.Behind) (d : Behind) (ds : List Behind) → FitsTrailer b d → (scope : List Local) (line : ℕ) → IsScope scope → (pc : ℕ) (stack : List Slot) (ls : List (Option Value)) (locals : Locals) (go : Callee → Run) → HasAt code size pc (p (called_before (d ∷ ds) called) scope line) → Stands size scope locals ls
          → ((u : Callee) → Takes b u → (ms : List (Option Value)) → Stands size scope locals ms → Does code h (state (pc + length (p (called_before (d ∷ ds) called) scope line)) (slot_of u ∷ stack) ms) (applied_from (b ∷ bs) u (here h line locals) go))
          → Does code h (state pc stack ls) (r (here h line locals) (λ c. applied_from (b ∷ bs) c (here h line locals) go))
      heads called p r f (meant.Call rs) bs (Call cs) ds fd scope line sc pc stack ls locals go has st k = f.1 scope line sc pc stack ls locals _ has st (λ u ms sm. k u tt ms sm)
      heads called p r f (meant.Over g) bs (Over d) ds fd scope line sc pc stack ls locals go has st k = f.1 scope line sc pc stack ls locals _ has st (λ u ms sm. k u tt ms sm)
      heads called p r f (meant.Index rs) bs (Index cs) ds fd scope line sc pc stack ls locals go has st k = f.0 scope line sc pc stack ls locals _ has st (λ u ms sm. k (Called u) tt ms sm)
      heads called p r f (meant.Attr a) bs (Attr b) ds fd scope line sc pc stack ls locals go has st k = f.0 scope line sc pc stack ls locals _ has st (λ u ms sm. k (Called u) tt ms sm)
      heads called p r f (meant.Call rs) bs (Over d) ds fd scope line sc pc stack ls locals go has st k = absurd fd
      heads called p r f (meant.Call rs) bs (Index cs) ds fd scope line sc pc stack ls locals go has st k = absurd fd
      heads called p r f (meant.Call rs) bs (Attr b) ds fd scope line sc pc stack ls locals go has st k = absurd fd
      heads called p r f (meant.Over g) bs (Call cs) ds fd scope line sc pc stack ls locals go has st k = absurd fd
      heads called p r f (meant.Over g) bs (Index cs) ds fd scope line sc pc stack ls locals go has st k = absurd fd
      heads called p r f (meant.Over g) bs (Attr b) ds fd scope line sc pc stack ls locals go has st k = absurd fd
      heads called p r f (meant.Index rs) bs (Call cs) ds fd scope line sc pc stack ls locals go has st k = absurd fd
      heads called p r f (meant.Index rs) bs (Over d) ds fd scope line sc pc stack ls locals go has st k = absurd fd
      heads called p r f (meant.Index rs) bs (Attr b) ds fd scope line sc pc stack ls locals go has st k = absurd fd
      heads called p r f (meant.Attr a) bs (Call cs) ds fd scope line sc pc stack ls locals go has st k = absurd fd
      heads called p r f (meant.Attr a) bs (Over d) ds fd scope line sc pc stack ls locals go has st k = absurd fd
      heads called p r f (meant.Attr a) bs (Index cs) ds fd scope line sc pc stack ls locals go has st k = absurd fd

  pub post_fits : (p : Part) (r : lookup.Part) (bs : List meant.Behind) (ds : List Behind) → PartFits code h size r p → Both FitsTrailer bs ds → PartFits code h size (λ env go. r env (λ c. applied_from bs c env go)) (post_part p ds)
  post_fits p r [] [] f fs = (
    (λ scope line sc pc stack ls locals go has st k. f.0 scope line sc pc stack ls locals go (has_front code size pc (p false scope line) [] has) st (λ v ms sm. moved code h _ _ (Holds v ∷ stack) ms (go v) (no_more pc (p false scope line)) (k v ms sm))),
    (λ scope line sc pc stack ls locals go has st k. f.1 scope line sc pc stack ls locals go (has_front code size pc (p true scope line) [] has) st (λ v ms sm. moved code h _ _ (slot_of v ∷ stack) ms (go v) (no_more pc (p true scope line)) (k v ms sm))),
  )
    where
      no_more : (pc : ℕ) (c : List Instr) → pc + length c ≡ pc + length (c ++ [])
      no_more pc c = omega (arith, length-append c [])
  post_fits p r [] (d ∷ ds) f fs = absurd fs
  post_fits p r (b ∷ bs) [] f fs = absurd fs
  post_fits p r (b ∷ bs) (d ∷ ds) f fs =
      ((λ scope line sc pc stack ls locals go has st k. posts false p r f b bs d ds fs.0 fs.1 scope line sc pc stack ls locals _ has st k), (λ scope line sc pc stack ls locals go has st k. posts true p r f b bs d ds fs.0 fs.1 scope line sc pc stack ls locals go has st (λ v ms sm. k (Called v) ms sm)))
