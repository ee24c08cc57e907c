use Rattle.mx_run.proofs.ScriptLemmas.{are_lines}
use Rattle.mx_run.proofs.laws.lines_give_the_script.Goals as goal

pub returns : goal.returns
returns c = are_lines
