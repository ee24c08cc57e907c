use Rattle.std.proofs.Common.{◌≡◌, ◌++◌, drop}
use Rattle.csv.specs.Records.{fields_of}
use Rattle.mx_tables.specs.Reading.{result_map, numbers_said}
use Rattle.mx_tables.proofs.read.read_numbers.Given as goal

abbrev pub invariant-loop-column : goal.invariant-loop-column
invariant-loop-column l = numbers_said 1 (drop 1 (fields_of l.fields)) ≡ result_map (λ later. l.numbers ++ later) (numbers_said l.column (drop l.column (fields_of l.fields)))
