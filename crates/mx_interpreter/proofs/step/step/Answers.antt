use Rattle.std.proofs.Common.{◌≡◌, ◌∙◌, ap, sym}
use Rattle.mx_model.specs.Keys.{key_result}
use Rattle.mx_code.specs.declared.action.Action.{Action}
use Rattle.mx_code.specs.declared.action.Action.TheVariants as act
use Rattle.mx_code_law.specs.States.{Next}
use Rattle.mx_code_law.specs.Machine.{next_of}
use Rattle.mx_read_set.specs.Passed.{passed}
use Rattle.mx_lookup.specs.Homes.{home_of}
use Rattle.mx_interpreter.proofs.Steps.{stepped_after}
use Rattle.mx_interpreter.proofs.step.step.Goals as goal

pub returns-in-Name-clause-came : goal.returns-in-Name-clause-came
returns-in-Name-clause-came c =
    stepped_after (key_result c.args.world.now) (home_of c.args.home.now) c.args.instr.action (act.Name _) c.args.instr.line c.run_name-went.result c.in_ok-stop_after-in-Name.field-0 c.args.stack.now.top c.run_name-went.new.stack.top c.args.seen.now c.run_name-went.new.seen
    (c.in-Name.is ∙ ap act.Name (sym c.in-Name.name-is)) c.in_ok-stop_after-in-Name.ensures.0 (c.in_ok-stop_after-in-Name.ensures.1 (home_of c.args.home.now) c.run_name-went.new.stack.top) c.run_name-went.ensures.came

pub returns-in-Return-clause-came : goal.returns-in-Return-clause-came
returns-in-Return-clause-came c =
    let look = key_result c.args.world.now in
    let h = home_of c.args.home.now in
    ap (λ (a : Action). passed look (next_of h a c.args.instr.line c.args.stack.now.top) c.args.seen.now) c.in-Return.is
    ∙ ap (λ (n : Next). passed look n c.args.seen.now) (c.in_ok-end_value-in-Return.ensures.came c.args.instr.line)

pub returns-in-ReturnDisplay-clause-came : goal.returns-in-ReturnDisplay-clause-came
returns-in-ReturnDisplay-clause-came c =
    let look = key_result c.args.world.now in
    let h = home_of c.args.home.now in
    ap (λ (a : Action). passed look (next_of h a c.args.instr.line c.args.stack.now.top) c.args.seen.now) c.in-ReturnDisplay.is
    ∙ ap (λ (n : Next). passed look n c.args.seen.now) (c.in_ok-end_display-in-ReturnDisplay.ensures.came c.args.instr.line)
