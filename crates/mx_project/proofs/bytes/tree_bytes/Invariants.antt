use Rattle.std.proofs.Common.{◌≡◌, take}
use Rattle.std.specs.List.{concat}
use Rattle.mx_project.specs.Lines.{lines_within}
use Rattle.mx_project.proofs.bytes.tree_bytes.Given as goal

abbrev pub invariant-loop-place : goal.invariant-loop-place
invariant-loop-place l = l.out.items ≡ concat (lines_within l.top (take l.place l.spaces))
