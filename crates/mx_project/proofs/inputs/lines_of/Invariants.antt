use Rattle.std.proofs.Common.{◌≡◌, map, take}
use Rattle.std.specs.List.{concat}
use Rattle.mx_project.specs.Lines.{input_lines}
use Rattle.mx_project.specs.Inputs.{input_in}
use Rattle.mx_project.proofs.inputs.lines_of.Given as goal

abbrev pub invariant-loop-row : goal.invariant-loop-row
invariant-loop-row l = l.out.items ≡ concat (input_lines (map input_in (take l.row-index l.rows)))
