use Rattle.std.proofs.Common.{◌≡◌, true, take}
use Rattle.csv.specs.Records.{fields_of}
use Rattle.mx_tables.specs.Reading.{are_printable}
use Rattle.mx_tables.proofs.read.read_header.Given as goal

abbrev pub invariant-loop-place : goal.invariant-loop-place
invariant-loop-place l = (l.names.items ≡ take l.place (fields_of l.header)) × (are_printable (take l.place (fields_of l.header)) ≡ true)
