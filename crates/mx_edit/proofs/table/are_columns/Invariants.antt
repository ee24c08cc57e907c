use Rattle.std.proofs.Common.{◌≡◌, take, drop, []}
use Rattle.mx_edit.specs.Table.{are_columns}
use Rattle.mx_edit.proofs.table.are_columns.Given as goal

abbrev pub invariant-loop-place : goal.invariant-loop-place
invariant-loop-place l = are_columns (take l.place l.columns) (drop l.place l.columns) ≡ are_columns [] l.columns
