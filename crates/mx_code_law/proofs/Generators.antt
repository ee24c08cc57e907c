-- Generators as the argument of a call.
use Rattle.std.proofs.Common.{◌≡◌, ℕ, ◌+◌, ◌-◌, List, [], ◌∷◌, ◌++◌, length, Option, Some, None, Bool, refl, sym, subst, arith, length-append}
use Rattle.std.specs.Prelude.{slice_get, slice_set, not, if◌then◌else◌}
use Rattle.std.specs.Bool.{beq}
use Rattle.mx_value.specs.declared.label.Label.{Label}
use Rattle.mx_value.specs.declared.value.Value.{Value}
use Rattle.mx_value.specs.declared.value.Value.TheVariants.{Flag, Tup}
use Rattle.mx_ops.specs.declared.builtin.Builtin.TheVariants as builtin
use Rattle.mx_ops.specs.Kinds.{items_of}
use Rattle.mx_ops.specs.Truth.{truth}
use Rattle.mx_ops.specs.Answers.{made}
use Rattle.mx_runs.specs.Runs.{Run}
use Rattle.mx_meaning.specs.Environments.{Env, Locals, Reading, computed, within}
use Rattle.mx_meaning.specs.Lookup.{Callee, Called, Function}
use Rattle.mx_meaning.specs.Calls.{called}
use Rattle.mx_meaning.specs.Expressions.{if_passed, items_or_fault, gone_over, generated_from, generated, decided_from, decided, called_over}
use Rattle.mx_meaning.specs.Expressions as meant
use Rattle.mx_code.specs.declared.action.Instr.{Instr}
use Rattle.mx_code.specs.declared.action.Local.{Local}
use Rattle.mx_code.specs.declared.action.Action.TheVariants as act
use Rattle.mx_code.specs.Names.{with_name}
use Rattle.mx_code.specs.Expressions.{at, Coded, Generator, filter_code, item_code, rounds_code}
use Rattle.mx_code_law.specs.States.{Slot, Holds, Items, Collected, slot_of, state, Next, On, Home, on_callee}
use Rattle.mx_code_law.specs.Machine.{deciding_truth, collect_next, made_next, items_next, Leads, Does, Ended}
use Rattle.mx_code_law.specs.Fits.{HasAt, IsScope, Stands, here}
use Rattle.mx_code_law.proofs.Places.{has_front, has_back}
use Rattle.mx_code_law.proofs.Locals.{scope_in, stands_in, stands_out}
use Rattle.mx_code_law.proofs.Steps.{acts, went, computes, tests, hits, moved}
use Rattle.mx_code_law.proofs.Forms.{AlwaysFits}

-- what stands on the stack to be called is called
pub called_is : (c : Callee) (stack : List Slot) (go : Callee → List Slot → Next) → on_callee (slot_of c ∷ stack) go ≡ go c stack
called_is (Called v) stack go = refl
called_is (Function b) stack go = refl

-- a generator as the argument, over these items, by the truth that decides
abbrev items_by : Option Bool → Callee → meant.Generator → List Value → Reading
items_by (Some decides) c g vs env go = decided_from decides g vs env go
items_by None c g vs env go = generated_from g vs [] env (λ items. computed (made (Tup items)) env (λ v. called c (v ∷ []) env go))

pub by_truth : (c : Callee) (g : meant.Generator) (env : Env) (go : Value → Run) → called_over c g env go ≡ gone_over g env (λ vs. items_by (deciding_truth c) c g vs env go)
by_truth (Called v) g env go = refl
by_truth (Function builtin.Any) g env go = refl
by_truth (Function builtin.All) g env go = refl
by_truth (Function builtin.Abs) g env go = refl
by_truth (Function builtin.Fixed) g env go = refl
by_truth (Function builtin.Int) g env go = refl
by_truth (Function builtin.Len) g env go = refl
by_truth (Function builtin.Max) g env go = refl
by_truth (Function builtin.Min) g env go = refl
by_truth (Function builtin.Nroot) g env go = refl
by_truth (Function builtin.Range) g env go = refl
by_truth (Function builtin.Round) g env go = refl
by_truth (Function builtin.Str) g env go = refl
by_truth (Function builtin.Sum) g env go = refl
by_truth (Function builtin.Tuple) g env go = refl

module _ (code : List Instr) (h : Home) (size : ℕ) where
  abbrev FitsTest : Option Reading → Option Coded → Type 0
  FitsTest None None = Unit {0}
  FitsTest None (Some c) = ⊥
  FitsTest (Some r) None = ⊥
  FitsTest (Some r) (Some c) = AlwaysFits code h size r c

  abbrev pub FitsGenerator : meant.Generator → Generator → Type 0
  FitsGenerator g c = AlwaysFits code h size g.element c.element × (g.name ≡ c.name) × AlwaysFits code h size g.over c.over × FitsTest g.test c.test

  -- the items of a tuple
  pub iterates : (v : Value) (line pc : ℕ) (stack : List Slot) (ls : List (Option Value)) (locals : Locals) (go : List Value → Run) → slice_get code pc ≡ Some (at line act.Iterate)
      → ((vs : List Value) → Does code h (state (pc + 1) (Items vs ∷ stack) ls) (go vs)) → Does code h (state pc (Holds v ∷ stack) ls) (items_or_fault (items_of v) (here h line locals) go)
  iterates v line pc stack ls locals go has k = acts code h (state pc (Holds v ∷ stack) ls) (at line act.Iterate) _ _ has refl (by (items_of v))
    where
      by : (o : Option (List Value)) → Leads code h (items_next h o line (λ vs. state (pc + 1) (Items vs ∷ stack) ls)) (items_or_fault o (here h line locals) go)
      by (Some vs) = k vs
      by None = Ended _

  -- the test of a generator, one instruction behind its `NextItem`
  filters : (test : Option Reading) (c : Option Coded) → FitsTest test c → (scope : List Local) (line : ℕ) → IsScope scope → (q : ℕ) (stack : List Slot) (ls : List (Option Value)) (locals : Locals) (given other : Run) → HasAt code size (q + 1) (filter_code c scope line) → Stands size scope locals ls
      → ((ms : List (Option Value)) → Stands size scope locals ms → Does code h (state (q + 1 + length (filter_code c scope line)) stack ms) given)
      → ((ms : List (Option Value)) → Stands size scope locals ms → Does code h (state q stack ms) other)
      → Does code h (state (q + 1) stack ls) (if_passed test (here h line locals) given other)
  filters None None f scope line sc q stack ls locals given other has st k back = moved code h _ _ stack ls given (omega arith) (k ls st)
  filters None (Some c) f scope line sc q stack ls locals given other has st k back = absurd f
  filters (Some r) None f scope line sc q stack ls locals given other has st k back = absurd f
  filters (Some r) (Some c) f scope line sc q stack ls locals given other has st k back =
      let t = c scope line in
      let end : q + 1 + length t + 1 ≡ q + 1 + length (filter_code (Some c) scope line) = omega (arith, length-append t (at line (act.BackUnless (length t + 1)) ∷ [])) in
      let again : q + 1 + length t - (length t + 1) ≡ q = omega arith in
      f scope line sc (q + 1) stack ls locals _ (has_front code size (q + 1) t _ has) st (λ v ms sm.
      acts code h (state (q + 1 + length t) (Holds v ∷ stack) ms) (at line (act.BackUnless (length t + 1))) _ _ (has_back code size (q + 1) t _ has).0 refl
      (tests code h (truth v) line locals (state (q + 1 + length t + 1) stack ms) (state (q + 1 + length t - (length t + 1)) stack ms) _ _
      (moved code h _ _ stack ms given end (k ms sm)) (moved code h _ _ stack ms other again (back ms sm))))

  -- ---- the rounds of a generator

  module _ (c : Callee) (g : meant.Generator) (d : Generator) (f : FitsGenerator g d) (scope : List Local) (line : ℕ) (sc : IsScope scope) (q : ℕ) (stack : List Slot) (locals : Locals) where
    abbrev body : List Instr
    body = item_code d scope line

    abbrev filter : List Instr
    filter = filter_code d.test (with_name d.name scope) line

    abbrev element : List Instr
    element = d.element (with_name d.name scope) line

    -- behind the last item
    abbrev past : ℕ
    past = q + 1 + length body + 1

    -- An item is made, or the test does not hold; after that the next one follows. The value stands for one more local,
    -- which nothing sees behind it.
    makes : (v : Value) (under : List Slot) (given : Value → Run) (other : Run) (ls : List (Option Value)) → HasAt code size q (rounds_code line (length scope) body (act.Collect (length body + 1))) → Stands size scope locals ls
        → ((w : Value) (ms : List (Option Value)) → Stands size scope locals ms → Does code h (state (q + 1 + length body) (Holds w ∷ under) ms) (given w))
        → ((ms : List (Option Value)) → Stands size scope locals ms → Does code h (state q under ms) other)
        → Does code h (state (q + 1) under (slice_set ls (length scope) (Some v))) (if_passed g.test (within g.name v (here h line locals)) (g.element (within g.name v (here h line locals)) given) other)
    makes v under given other ls has st k back =
        let inner = with_name d.name scope in
        let more : Locals = (d.name, Some v) ∷ locals in
        let hf = has_front code size (q + 1) body _ has.2 in
        let end : q + 1 + length filter + length element ≡ q + 1 + length body = omega (arith, length-append filter element) in
        subst (λ (name : Label). Does code h (state (q + 1) under (slice_set ls (length scope) (Some v))) (if_passed g.test (within name v (here h line locals)) (g.element (within name v (here h line locals)) given) other)) (sym f.1)
        (filters g.test d.test f.3 inner line (scope_in d.name scope sc) q under _ more _ _ (has_front code size (q + 1) filter _ hf) (stands_in size scope locals ls d.name v sc has.1 st)
        (λ ms sm. f.0 inner line (scope_in d.name scope sc) (q + 1 + length filter) under ms more given (has_back code size (q + 1) filter _ hf) sm (λ w ns sn. moved code h _ _ (Holds w ∷ under) ns (given w) end (k w ns (stands_out size scope locals ns d.name v sn))))
        (λ ms sm. back ms (stands_out size scope locals ms d.name v sm)))

    module _ (has : HasAt code size q (rounds_code line (length scope) body (act.Collect (length body + 1)) ++ (at line act.Made ∷ at line (act.Call 1) ∷ []))) where
      rounds : HasAt code size q (rounds_code line (length scope) body (act.Collect (length body + 1)))
      rounds = has_front code size q (rounds_code line (length scope) body (act.Collect (length body + 1))) _ has

      behind : HasAt code size past (at line act.Made ∷ at line (act.Call 1) ∷ [])
      behind =
          let r = rounds_code line (length scope) body (act.Collect (length body + 1)) in
          let e : q + length r ≡ past = omega (arith, length-append body (at line (act.Collect (length body + 1)) ∷ [])) in
          subst (λ n. HasAt code size n (at line act.Made ∷ at line (act.Call 1) ∷ [])) e (has_back code size q r _ has)

      last : slice_get code (q + 1 + length body) ≡ Some (at line (act.Collect (length body + 1)))
      last = (has_back code size (q + 1) body _ rounds.2).0

      -- behind the last item
      ends : (done : List Value) (ls : List (Option Value)) (run : Run) → Leads code h (made_next h (deciding_truth c) done line (λ x. state (past + 1 + 1) (Holds x ∷ stack) ls) (λ x. state (past + 1) (Holds x ∷ slot_of c ∷ stack) ls)) run
          → Does code h (state q (Items [] ∷ Collected done ∷ slot_of c ∷ stack) ls) run
      ends done ls run d =
          let under = Collected done ∷ slot_of c ∷ stack in
          let over : q + 1 + (length body + 1) ≡ past = omega arith in
          went code h (state q (Items [] ∷ under) ls) (state (q + 1 + (length body + 1)) under ls) (at line (act.NextItem (length scope) (length body + 1))) run rounds.0 refl
          (moved code h _ _ under ls run over (acts code h (state past under ls) (at line act.Made) _ _ behind.0 (called_is c stack _) d))

      -- a value that was made
      collects : (w : Value) (vs done : List Value) (ls : List (Option Value)) (run : Run) → Leads code h (collect_next h (deciding_truth c) w line (λ x. state (past + 2) (Holds x ∷ stack) ls) (state (q + 1 + length body - (length body + 1)) (Items vs ∷ Collected done ∷ slot_of c ∷ stack) ls) (state (q + 1 + length body - (length body + 1)) (Items vs ∷ Collected (done ++ w ∷ []) ∷ slot_of c ∷ stack) ls)) run
          → Does code h (state (q + 1 + length body) (Holds w ∷ Items vs ∷ Collected done ∷ slot_of c ∷ stack) ls) run
      collects w vs done ls run d = acts code h (state (q + 1 + length body) (Holds w ∷ Items vs ∷ Collected done ∷ slot_of c ∷ stack) ls) (at line (act.Collect (length body + 1))) _ run last (called_is c stack _) d

      again : q + 1 + length body - (length body + 1) ≡ q
      again = omega arith

      taken : (v : Value) (vs done : List Value) (ls : List (Option Value)) (run : Run) → Does code h (state (q + 1) (Items vs ∷ Collected done ∷ slot_of c ∷ stack) (slice_set ls (length scope) (Some v))) run → Does code h (state q (Items (v ∷ vs) ∷ Collected done ∷ slot_of c ∷ stack) ls) run
      taken v vs done ls run d = went code h (state q (Items (v ∷ vs) ∷ Collected done ∷ slot_of c ∷ stack) ls) _ (at line (act.NextItem (length scope) (length body + 1))) run rounds.0 refl d

      -- `any` and `all`
      decides : (t : Bool) → deciding_truth c ≡ Some t → (go : Value → Run) → ((v : Value) (ms : List (Option Value)) → Stands size scope locals ms → Does code h (state (past + 2) (Holds v ∷ stack) ms) (go v)) → (vs done : List Value) (ls : List (Option Value)) → Stands size scope locals ls
          → Does code h (state q (Items vs ∷ Collected done ∷ slot_of c ∷ stack) ls) (decided_from t g vs (here h line locals) go)
      decides t is go k [] done ls st =
          let end : past + 1 + 1 ≡ past + 2 = omega arith in
          ends done ls _ (subst (λ o. Leads code h (made_next h o done line (λ x. state (past + 1 + 1) (Holds x ∷ stack) ls) (λ x. state (past + 1) (Holds x ∷ slot_of c ∷ stack) ls)) (go (Flag (not t)))) (sym is)
          (moved code h _ _ (Holds (Flag (not t)) ∷ stack) ls (go (Flag (not t))) end (k (Flag (not t)) ls st)))
      decides t is go k (v ∷ vs) done ls st =
          let under = Items vs ∷ Collected done ∷ slot_of c ∷ stack in
          taken v vs done ls _ (makes v under _ _ ls rounds st
          (λ w ms sm. collects w vs done ms _ (subst (λ o. Leads code h (collect_next h o w line (λ x. state (past + 2) (Holds x ∷ stack) ms) (state (q + 1 + length body - (length body + 1)) under ms) (state (q + 1 + length body - (length body + 1)) (Items vs ∷ Collected (done ++ w ∷ []) ∷ slot_of c ∷ stack) ms)) (computed (truth w) (here h line locals) (λ b. if beq b t then go (Flag t) else decided_from t g vs (here h line locals) go))) (sym is)
          (hits code h t (truth w) line locals (state (past + 2) (Holds (Flag t) ∷ stack) ms) (state (q + 1 + length body - (length body + 1)) under ms) _ _ (k (Flag t) ms sm) (moved code h _ _ under ms _ again (decides t is go k vs done ms sm)))))
          (λ ms sm. decides t is go k vs done ms sm))

      -- any other call
      gathers : deciding_truth c ≡ None → (go : List Value → Run) → ((done : List Value) (ms : List (Option Value)) → Stands size scope locals ms → Leads code h (made_next h None done line (λ x. state (past + 1 + 1) (Holds x ∷ stack) ms) (λ x. state (past + 1) (Holds x ∷ slot_of c ∷ stack) ms)) (go done)) → (vs done : List Value) (ls : List (Option Value)) → Stands size scope locals ls
          → Does code h (state q (Items vs ∷ Collected done ∷ slot_of c ∷ stack) ls) (generated_from g vs done (here h line locals) go)
      gathers is go k [] done ls st =
          ends done ls _ (subst (λ o. Leads code h (made_next h o done line (λ x. state (past + 1 + 1) (Holds x ∷ stack) ls) (λ x. state (past + 1) (Holds x ∷ slot_of c ∷ stack) ls)) (go done)) (sym is) (k done ls st))
      gathers is go k (v ∷ vs) done ls st =
          let under = Items vs ∷ Collected done ∷ slot_of c ∷ stack in
          taken v vs done ls _ (makes v under _ _ ls rounds st
          (λ w ms sm. collects w vs done ms _ (subst (λ o. Leads code h (collect_next h o w line (λ x. state (past + 2) (Holds x ∷ stack) ms) (state (q + 1 + length body - (length body + 1)) under ms) (state (q + 1 + length body - (length body + 1)) (Items vs ∷ Collected (done ++ w ∷ []) ∷ slot_of c ∷ stack) ms)) (generated_from g vs (done ++ w ∷ []) (here h line locals) go)) (sym is)
          (moved code h _ _ (Items vs ∷ Collected (done ++ w ∷ []) ∷ slot_of c ∷ stack) ms _ again (gathers is go k vs (done ++ w ∷ []) ms sm))))
          (λ ms sm. gathers is go k vs done ms sm))

      -- The tuple is made, and then called. What a call leads to is known by its place.
      pub over_items : (go : Value → Run) → ((v : Value) (ms : List (Option Value)) → Stands size scope locals ms → Does code h (state (past + 2) (Holds v ∷ stack) ms) (go v))
          → ((v : Value) (ms : List (Option Value)) → Stands size scope locals ms → Does code h (state (past + 1) (Holds v ∷ slot_of c ∷ stack) ms) (called c (v ∷ []) (here h line locals) go))
          → (o : Option Bool) → deciding_truth c ≡ o → (vs : List Value) (ls : List (Option Value)) → Stands size scope locals ls
          → Does code h (state q (Items vs ∷ Collected [] ∷ slot_of c ∷ stack) ls) (items_by o c g vs (here h line locals) go)
      over_items go k calls (Some t) is vs ls st = decides t is go k vs [] ls st
      over_items go k calls None is vs ls st =
          gathers is _ (λ done ms sm. computes code h (made (Tup done)) line locals (λ x. On (state (past + 1) (Holds x ∷ slot_of c ∷ stack) ms)) _ (λ v. calls v ms sm)) vs [] ls st
