-- The text of a table.
use Rattle.std.specs.Prelude.{ℕ, ℤ, List, [], ◌∷◌, map}
use Rattle.std.specs.Fmt.{signed_decimal}
use Rattle.mx_value.specs.declared.value.Value.{Value}
use Rattle.mx_print.specs.Values.{value_text}
use Rattle.mx_edit.specs.Rows.{TableRows}
use Rattle.mx_tables.specs.Records.{Records, text_of}

-- a row as a record: the key, and behind it the numbers, each by its own text
abbrev pub row_record : ℤ → List Value → List (List ℕ)
row_record key numbers = signed_decimal key ∷ map value_text numbers

abbrev pub row_records : List ℤ → List (List Value) → Records
row_records (key ∷ keys) (numbers ∷ rows) = row_record key numbers ∷ row_records keys rows
row_records _ _ = []

-- the header, and one record to a row
abbrev pub table_records : TableRows → Records
table_records t = t.columns ∷ row_records t.keys t.rows

abbrev pub table_text : TableRows → List ℕ
table_text t = text_of (table_records t)
