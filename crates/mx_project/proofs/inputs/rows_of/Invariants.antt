use Rattle.std.proofs.Common.{◌≡◌, map, take}
use Rattle.mx_project.specs.Inputs.{row_of}
use Rattle.mx_project.proofs.inputs.rows_of.Given as goal

abbrev pub invariant-loop-place : goal.invariant-loop-place
invariant-loop-place l = l.rows.items ≡ map row_of (take l.place l.inputs)
