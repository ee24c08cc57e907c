use Rattle.std.proofs.Common.{◌≡◌, ◌++◌, take}
use Rattle.std.specs.List.{concat}
use Rattle.mx_project.specs.Lines.{global_lines}
use Rattle.mx_project.proofs.bytes.push_globals.Given as goal

abbrev pub invariant-loop-place : goal.invariant-loop-place
invariant-loop-place l = l.out.items ≡ l.fn.out.items ++ concat (global_lines (take l.place l.globals))
