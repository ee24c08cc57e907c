use Rattle.std.proofs.Common.{◌≡◌, ◌++◌, map, take}
use Rattle.std.specs.List.{concat}
use Rattle.mx_syntax.specs.Lists.{flat}
use Rattle.mx_project.specs.Lines.{cells_lines}
use Rattle.mx_project.proofs.bytes.push_all_cells.Given as goal

abbrev pub invariant-loop-place : goal.invariant-loop-place
invariant-loop-place l = l.out.items ≡ l.fn.out.items ++ concat (flat (map (cells_lines l.path) (take l.place l.all)))
