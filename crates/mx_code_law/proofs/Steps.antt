-- One instruction at a time.
use Rattle.std.proofs.Common.{◌≡◌, ℕ, List, Option, Some, Result, Ok, Err, Bool, true, false, sym, ap, ◌∙◌, subst}
use Rattle.std.specs.Prelude.{slice_get, if◌then◌else◌}
use Rattle.std.specs.Bool.{beq}
use Rattle.mx_value.specs.declared.value.Value.{Value}
use Rattle.mx_value.specs.declared.value.Value.TheVariants.{Flag}
use Rattle.mx_value.specs.declared.fault.FaultKind.{FaultKind}
use Rattle.mx_runs.specs.Runs.{Run, Faults}
use Rattle.mx_meaning.specs.Environments.{Locals, computed, tested}
use Rattle.mx_code.specs.declared.action.Instr.{Instr}
use Rattle.mx_code_law.specs.States.{Slot, State, state, Next, On, Home, computed_next, tested_next, flag_next, hit}
use Rattle.mx_code_law.specs.Machine.{next_at, next_of, Leads, Does, Goes, Ended}
use Rattle.mx_code_law.specs.Fits.{here}

module _ (code : List Instr) (h : Home) where
  -- what comes of the instruction does the run
  pub acts : (s : State) (i : Instr) (n : Next) (run : Run) → slice_get code s.pc ≡ Some i → next_of h i.action i.line s ≡ n → Leads code h n run → Does code h s run
  acts s i n run has e d = Goes s run (subst (λ m. Leads code h m run) (sym (ap (λ o. next_at h o s) has ∙ e)) d)

  pub went : (s t : State) (i : Instr) (run : Run) → slice_get code s.pc ≡ Some i → next_of h i.action i.line s ≡ On t → Does code h t run → Does code h s run
  went s t i run has e d = acts s i (On t) run has e d

  -- one and the other, by a flag
  pub chosen : (b : Bool) (n m : Next) (r s : Run) → Leads code h n r → Leads code h m s → Leads code h (if b then n else m) (if b then r else s)
  chosen true n m r s d e = d
  chosen false n m r s d e = e

  pub to_either : (b : Bool) (s t : State) (r q : Run) → Does code h s r → Does code h t q → Does code h (if b then s else t) (if b then r else q)
  to_either true s t r q d e = d
  to_either false s t r q d e = e

  -- what was computed, or the fault that came of it
  pub computes : {X : Type 0} (o : Result X FaultKind) (line : ℕ) (locals : Locals) (to : X → Next) (go : X → Run) → ((x : X) → Leads code h (to x) (go x)) → Leads code h (computed_next h o line to) (computed o (here h line locals) go)
  computes (Ok x) line locals to go d = d x
  computes (Err kind) line locals to go d = Ended (Faults kind h.node line)

  -- a test that leads to two states
  pub tests : (o : Result Bool FaultKind) (line : ℕ) (locals : Locals) (s t : State) (given other : Run) → Does code h s given → Does code h t other → Leads code h (tested_next h o line s t) (tested o given other (here h line locals))
  tests o line locals s t given other d e = computes o line locals _ _ (λ b. to_either b s t given other d e)

  -- a test whose flag is left
  pub flags : (o : Result Bool FaultKind) (line : ℕ) (locals : Locals) (to : Value → State) (go : Value → Run) → ((v : Value) → Does code h (to v) (go v)) → Leads code h (flag_next h o line to) (tested o (go (Flag true)) (go (Flag false)) (here h line locals))
  flags (Ok true) line locals to go d = d (Flag true)
  flags (Ok false) line locals to go d = d (Flag false)
  flags (Err kind) line locals to go d = Ended (Faults kind h.node line)

  -- a test whether a truth is the flag
  pub hits : (decides : Bool) (o : Result Bool FaultKind) (line : ℕ) (locals : Locals) (s t : State) (given other : Run) → Does code h s given → Does code h t other
      → Leads code h (tested_next h (hit decides o) line s t) (computed o (here h line locals) (λ b. if beq b decides then given else other))
  hits decides (Ok b) line locals s t given other d e = to_either (beq b decides) s t given other d e
  hits decides (Err kind) line locals s t given other d e = Ended (Faults kind h.node line)

  -- the same run at a place that is the same
  pub moved : (pc qc : ℕ) (stack : List Slot) (ls : List (Option Value)) (run : Run) → pc ≡ qc → Does code h (state qc stack ls) run → Does code h (state pc stack ls) run
  moved pc qc stack ls run e d = subst (λ p. Does code h (state p stack ls) run) (sym e) d
