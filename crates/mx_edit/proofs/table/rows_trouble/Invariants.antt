use Rattle.std.proofs.Common.{◌≡◌, ◌+◌, take, drop, []}
use Rattle.mx_edit.specs.Table.{rows_trouble}
use Rattle.mx_edit.proofs.table.rows_trouble.Given as goal

abbrev pub invariant-loop-place : goal.invariant-loop-place
invariant-loop-place l = rows_trouble l.width (l.place + 1) (take l.place l.keys) (drop l.place l.keys) (drop l.place l.rows) ≡ rows_trouble l.width 1 [] l.keys l.rows
