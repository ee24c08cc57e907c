use Rattle.std.proofs.Common.{◌+◌, ◌∷◌, ℕ, refl}
use Rattle.mx_value.specs.declared.value.Value.{Value}
use Rattle.mx_model.specs.Keys.{key_result}
use Rattle.mx_code.specs.declared.action.Action.TheVariants as act
use Rattle.mx_code_law.specs.States.{Holds, State, state}
use Rattle.mx_code_law.specs.Finding.{valued_next}
use Rattle.mx_code_law.specs.Machine.{next_of}
use Rattle.mx_lookup.specs.Homes.{home_of}
use Rattle.mx_interpreter.proofs.Steps.{left}
use Rattle.mx_interpreter.proofs.names.run_name.Goals as goal

-- behind the instruction, with a value
abbrev behind : State → Value → State
behind s v = state (s.pc + 1) (Holds v ∷ s.stack) s.locals

pub returns-in-Ok-Called-clause-came : goal.returns-in-Ok-Called-clause-came
returns-in-Ok-Called-clause-came c =
    let h = home_of c.args.home.now in
    let s : State = c.args.stack.now.top in
    let k = rw c.in-Ok-Called.field-0-is at c.in-Ok-Called.ensures in
    left (key_result c.args.world.now) h (λ (line : ℕ). next_of h (act.Name c.args.name.now) line s) c.leave.result (behind s c.in-Ok-Called.value) c.leave.new.stack c.args.stack.now c.args.seen.now c.seek_name.new.seen
    (λ line. k h line (valued_next h line (behind s)) refl) c.leave.ensures

pub returns-in-Ok-Function-clause-came : goal.returns-in-Ok-Function-clause-came
returns-in-Ok-Function-clause-came c =
    let h = home_of c.args.home.now in
    let k = rw c.in-Ok-Function.field-0-is at c.in-Ok-Function.ensures in
    λ line. k h line (valued_next h line (behind c.args.stack.now.top)) refl

pub returns-in-Err-Fault-clause-came : goal.returns-in-Err-Fault-clause-came
returns-in-Err-Fault-clause-came c =
    let h = home_of c.args.home.now in
    let k = rw c.in-Err-Fault.field-0-is at c.in-Err-Fault.ensures in
    λ line. k h line (valued_next h line (behind c.args.stack.now.top)) refl
