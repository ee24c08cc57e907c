use Rattle.std.proofs.Common.{◌≡◌, [], ◌∷◌, map, take}
use Rattle.std.specs.Fmt.{signed_decimal}
use Rattle.csv.specs.Records.{fields_of, partial_of}
use Rattle.mx_print.specs.Values.{value_text}
use Rattle.mx_tables.proofs.write.row_record.Given as goal

abbrev pub invariant-loop-number : goal.invariant-loop-number
invariant-loop-number l = (fields_of l.row ≡ signed_decimal l.key ∷ map value_text (take l.number-index l.numbers)) × (partial_of l.row ≡ [])
