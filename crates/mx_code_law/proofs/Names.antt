-- Names, attributes, calls and subscripts: the instructions that look up and ask.
use Rattle.std.proofs.Common.{◌≡◌, ℕ, ◌+◌, List, [], ◌∷◌, length, Option, Some, None, refl, ap, ◌∙◌, true, false}
use Rattle.std.specs.Prelude.{slice_get}
use Rattle.mx_value.specs.declared.label.Label.{Label}
use Rattle.mx_value.specs.declared.value.Value.{Value, out-Value}
use Rattle.mx_runs.specs.Runs.{Run}
use Rattle.mx_meaning.specs.Environments.{Locals, local_of}
use Rattle.mx_meaning.specs.Lookup.{Callee, Called, Function, sought, named, as_value, valued, attribute}
use Rattle.mx_meaning.specs.Lookup as lookup
use Rattle.mx_meaning.specs.Calls.{called, indexed}
use Rattle.mx_code.specs.declared.action.Instr.{Instr}
use Rattle.mx_code.specs.declared.action.Local.{Local}
use Rattle.mx_code.specs.declared.action.Action.{Action}
use Rattle.mx_code.specs.declared.action.Action.TheVariants as act
use Rattle.mx_code.specs.Names.{place_of}
use Rattle.mx_code.specs.Expressions.{at, local_or, name_code}
use Rattle.mx_code_law.specs.States.{Slot, Holds, Way, slot_of, State, state, Next, On, Home}
use Rattle.mx_code_law.specs.Finding.{Place, Again, valued_next, local_next}
use Rattle.mx_code_law.specs.Machine.{on_walk, next_of, Leads, Does, Ended}
use Rattle.mx_code_law.specs.Fits.{IsScope, here, CalleeFits}
use Rattle.mx_code_law.proofs.Locals.{IsPlaced, stands_placed}
use Rattle.mx_code_law.proofs.Steps.{acts, went}
use Rattle.mx_code_law.proofs.Finding.{name_does, valued_does, attribute_does}
use Rattle.mx_code_law.proofs.Calling.{called_does, indexed_does}
use Rattle.mx_code_law.proofs.Forms.{AlwaysFits, onto, popped_all}
use Rattle.mx_code_law.proofs.Generators.{called_is}

-- values on the stack are no walk
unwalked : (vs : List Value) (s : Slot) (stack : List Slot) (go : Place → List Slot → Next) → on_walk (s ∷ stack) go ≡ go None (s ∷ stack) → on_walk (onto vs (s ∷ stack)) go ≡ go None (onto vs (s ∷ stack))
unwalked [] s stack go e = e
unwalked (v ∷ vs) s stack go e = unwalked vs (Holds v) (s ∷ stack) go refl

callee_unwalked : (c : Callee) (stack : List Slot) (go : Place → List Slot → Next) → on_walk (slot_of c ∷ stack) go ≡ go None (slot_of c ∷ stack)
callee_unwalked (Called v) stack go = refl
callee_unwalked (Function b) stack go = refl

module _ (code : List Instr) (h : Home) (size : ℕ) where
  -- ---- names

  -- a name that may be a local
  place_does : (a : Action) (name : Label) (line pc : ℕ) (stack : List Slot) (ls : List (Option Value)) (locals : Locals) (go : Callee → Run) (o : Option ℕ) (l : Option (Option Value)) → slice_get code pc ≡ Some (at line (local_or o a)) → IsPlaced ls o l
      → ((v : Value) → Does code h (state (pc + 1) (Holds v ∷ stack) ls) (go (Called v))) → Leads code h (next_of h a line (state pc stack ls)) (sought name (here h line locals) go) → Does code h (state pc stack ls) (lookup.local_or l name (here h line locals) go)
  place_does a name line pc stack ls locals go None None has p k d = acts code h (state pc stack ls) (at line a) _ _ has refl d
  place_does a name line pc stack ls locals go None (Some l) has p k d = absurd p
  place_does a name line pc stack ls locals go (Some i) None has p k d = absurd p
  place_does a name line pc stack ls locals go (Some i) (Some None) has p k d = acts code h (state pc stack ls) (at line (act.Local i)) _ _ has (ap (λ o. local_next h o line (λ v. state (pc + 1) (Holds v ∷ stack) ls)) p) (Ended _)
  place_does a name line pc stack ls locals go (Some i) (Some (Some v)) has p k d = went code h (state pc stack ls) (state (pc + 1) (Holds v ∷ stack) ls) (at line (act.Local i)) _ has (ap (λ o. local_next h o line (λ v. state (pc + 1) (Holds v ∷ stack) ls)) p) (k v)

  pub name_fits : (name : Label) → AlwaysFits code h size (valued (named name)) (name_code name false)
  name_fits name scope line sc pc stack ls locals go has st k =
      let to : Value → State = λ v. state (pc + 1) (Holds v ∷ stack) ls in
      place_does (act.Name name) name line pc stack ls locals (λ c. as_value c (here h line locals) go) (place_of scope name) (local_of locals name) has.0 (stands_placed size scope locals ls name sc st) (λ v. k v ls st)
      (name_does code h line locals name (valued_next h line to) _ (valued_does code h line locals to go (λ v. k v ls st)))

  pub callee_fits : (name : Label) (scope : List Local) (line : ℕ) → IsScope scope → CalleeFits code h size scope line (name_code name true scope line) (named name)
  callee_fits name scope line sc pc stack ls locals go has st k =
      place_does (act.Callee name) name line pc stack ls locals go (place_of scope name) (local_of locals name) has.0 (stands_placed size scope locals ls name sc st) (λ v. k (Called v) ls st)
      (name_does code h line locals name (λ c. On (state (pc + 1) (slot_of c ∷ stack) ls)) go (λ c. k c ls st))

  -- ---- what asks

  module _ (line pc : ℕ) (stack : List Slot) (ls : List (Option Value)) (locals : Locals) (go : Value → Run) (k : (v : Value) → Does code h (state (pc + 1) (Holds v ∷ stack) ls) (go v)) where
    abbrev to : Value → State
    to x = state (pc + 1) (Holds x ∷ stack) ls

    abbrev again : List Slot → Again
    again below more came = state pc (Way more came ∷ below) ls

    pub attribute_is : (v : Value) (name : Label) → slice_get code pc ≡ Some (at line (act.Attr name)) → Does code h (state pc (Holds v ∷ stack) ls) (attribute v name (here h line locals) go)
    attribute_is v name has =
        let below = Holds v ∷ stack in
        acts code h (state pc below ls) (at line (act.Attr name)) _ _ has refl
        (attribute_does code h line locals (out-Value v) name (again below) to go k
        (λ more came run d. acts code h (again below more came) (at line (act.Attr name)) _ run has refl d))

    pub call_is : (c : Callee) (args : List Value) (count : ℕ) → count ≡ length args → slice_get code pc ≡ Some (at line (act.Call count)) → Does code h (state pc (onto args (slot_of c ∷ stack)) ls) (called c args (here h line locals) go)
    call_is c args count many has =
        let below = onto args (slot_of c ∷ stack) in
        acts code h (state pc below ls) (at line (act.Call count)) _ _ has (unwalked args (slot_of c) stack _ (callee_unwalked c stack _) ∙ popped_all args (slot_of c ∷ stack) count _ many ∙ called_is c stack _)
        (called_does code h line locals to go k c args (again below)
        (λ more came run d. acts code h (again below more came) (at line (act.Call count)) _ run has (popped_all args (slot_of c ∷ stack) count _ many ∙ called_is c stack _) d))

    pub index_is : (v : Value) (args : List Value) (count : ℕ) → count ≡ length args → slice_get code pc ≡ Some (at line (act.Index count)) → Does code h (state pc (onto args (Holds v ∷ stack)) ls) (indexed v args (here h line locals) go)
    index_is v args count many has =
        let below = onto args (Holds v ∷ stack) in
        acts code h (state pc below ls) (at line (act.Index count)) _ _ has (unwalked args (Holds v) stack _ refl ∙ popped_all args (Holds v ∷ stack) count _ many)
        (indexed_does code h line locals to go k v args (again below)
        (λ more came run d. acts code h (again below more came) (at line (act.Index count)) _ run has (popped_all args (Holds v ∷ stack) count _ many) d))
