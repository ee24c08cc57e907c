use Rattle.std.proofs.Common.{◌≡◌, ◌∷◌, ◌++◌, map, drop}
use Rattle.csv.specs.Records.{fields_of}
use Rattle.mx_tables.specs.Writing.{row_records}
use Rattle.mx_tables.proofs.write.write_table.Given as goal

abbrev pub invariant-loop-place : goal.invariant-loop-place
invariant-loop-place l = l.table.columns ∷ row_records l.table.keys l.table.rows ≡ map fields_of l.list.items ++ row_records (drop l.place l.table.keys) (drop l.place l.table.rows)
