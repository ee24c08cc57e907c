use Rattle.std.proofs.Common.{◌≡◌, ◌++◌, take}
use Rattle.std.specs.List.{concat}
use Rattle.mx_project.specs.Lines.{all_owned_lines}
use Rattle.mx_project.proofs.bytes.push_all_owned.Given as goal

abbrev pub invariant-loop-place : goal.invariant-loop-place
invariant-loop-place l = l.out.items ≡ l.fn.out.items ++ concat (all_owned_lines (take l.place l.spaces))
