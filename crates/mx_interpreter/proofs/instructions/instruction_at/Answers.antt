use Rattle.std.proofs.Common.{◌∙◌, Some, sym, ap}
use Rattle.mx_code.specs.declared.action.Action.{Action}
use Rattle.mx_code.specs.Expressions.{at}
use Rattle.mx_interpreter.proofs.Codes.{told_at}
use Rattle.mx_interpreter.proofs.instructions.instruction_at.Goals as goal

pub returns : goal.returns
returns c =
    let code = c.args.code.now in
    told_at code.constants code.names code.instructions code.lines c.args.place c.in-Some.instruction.now c.in-Some-get.line.now c.in-Some.ensures c.in-Some-get.ensures
    ∙ ap (λ (a : Action). Some (at c.in-Some-get.line.now a)) (sym c.in_ok-action.ensures)
