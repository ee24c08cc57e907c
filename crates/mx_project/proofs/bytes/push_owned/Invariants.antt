use Rattle.std.proofs.Common.{◌≡◌, ◌++◌, take}
use Rattle.std.specs.List.{concat}
use Rattle.mx_project.specs.Lines.{owned_lines}
use Rattle.mx_project.proofs.bytes.push_owned.Given as goal

abbrev pub invariant-loop-place : goal.invariant-loop-place
invariant-loop-place l = l.out.items ≡ l.fn.out.items ++ concat (owned_lines l.path (take l.place l.references))
