use Rattle.std.proofs.Common.{◌∙◌, sym, ap}
use Rattle.mx_code_law.specs.States.{End}
use Rattle.mx_lookup.specs.Homes.{home_of}
use Rattle.mx_interpreter.proofs.step.end_display.Goals as goal

pub returns-clause-came : goal.returns-clause-came
returns-clause-came c = λ line. c.in_ok-returned.ensures.came (home_of c.args.home.now) line ∙ ap End (sym c.in_ok-end_with.ensures)
