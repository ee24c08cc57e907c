use Rattle.std.proofs.Common.{◌≡◌, ◌+◌, map, drop}
use Rattle.csv.specs.Records.{fields_of}
use Rattle.mx_tables.specs.Fronts.{front_said, behind}
use Rattle.mx_tables.proofs.read.read_front.Given as goal

abbrev pub invariant-loop-place : goal.invariant-loop-place
invariant-loop-place l = front_said l.count 1 (map fields_of l.records) ≡ behind l.keys.items l.rows.items (front_said l.count (l.place + 1) (drop l.place (map fields_of l.records)))
