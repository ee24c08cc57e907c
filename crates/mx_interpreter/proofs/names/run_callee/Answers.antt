use Rattle.std.proofs.Common.{◌+◌, ◌∷◌, ℕ, refl}
use Rattle.mx_model.specs.Keys.{key_result}
use Rattle.mx_meaning.specs.Lookup.{Callee, Called, Function}
use Rattle.mx_code.specs.declared.action.Action.TheVariants as act
use Rattle.mx_code_law.specs.States.{Next, On, State, slot_of, state}
use Rattle.mx_code_law.specs.Machine.{next_of}
use Rattle.mx_lookup.specs.Homes.{home_of}
use Rattle.mx_interpreter.proofs.Steps.{left}
use Rattle.mx_interpreter.proofs.names.run_callee.Goals as goal

-- behind the instruction, with what is called
abbrev behind : State → Callee → State
behind s c = state (s.pc + 1) (slot_of c ∷ s.stack) s.locals

abbrev onward : State → Callee → Next
onward s c = On (behind s c)

pub returns-in-Ok-Called-clause-came : goal.returns-in-Ok-Called-clause-came
returns-in-Ok-Called-clause-came c =
    let h = home_of c.args.home.now in
    let s : State = c.args.stack.now.top in
    let k = rw c.in-Ok-Called.field-0-is at c.in-Ok-Called.ensures in
    left (key_result c.args.world.now) h (λ (line : ℕ). next_of h (act.Callee c.args.name.now) line s) c.leave.result (behind s (Called c.in-Ok-Called.value)) c.leave.new.stack c.args.stack.now c.args.seen.now c.seek_name.new.seen
    (λ line. k h line (onward s) refl) c.leave.ensures

pub returns-in-Ok-Function-clause-came : goal.returns-in-Ok-Function-clause-came
returns-in-Ok-Function-clause-came c =
    let h = home_of c.args.home.now in
    let s : State = c.args.stack.now.top in
    let k = rw c.in-Ok-Function.field-0-is at c.in-Ok-Function.ensures in
    left (key_result c.args.world.now) h (λ (line : ℕ). next_of h (act.Callee c.args.name.now) line s) c.leave-in-Ok-Function.result (behind s (Function c.in-Ok-Function.function)) c.leave-in-Ok-Function.new.stack c.args.stack.now c.args.seen.now c.seek_name.new.seen
    (λ line. k h line (onward s) refl) c.leave-in-Ok-Function.ensures

pub returns-in-Err-Fault-clause-came : goal.returns-in-Err-Fault-clause-came
returns-in-Err-Fault-clause-came c =
    let h = home_of c.args.home.now in
    let k = rw c.in-Err-Fault.field-0-is at c.in-Err-Fault.ensures in
    λ line. k h line (onward c.args.stack.now.top) refl
