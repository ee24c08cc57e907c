-- The table that a text says, or why it says none.
use Rattle.std.specs.Prelude.{◌≡◌, ℕ, ℤ, Bool, not, ◌||◌, ◌==◌, ◌+◌, nat_lt, List, [], ◌∷◌, ◌++◌, length, drop, Option, Some, None, is_some, if◌then◌else◌, Result, Ok, Err, ◌⊎◌}
use Rattle.std.specs.List.{list_all}
use Rattle.csv.specs.Records.{field_at}
use Rattle.mx_value.specs.Label.{is_printable}
use Rattle.mx_value.specs.declared.value.Value.{Value}
use Rattle.mx_edit.specs.Rows.{TableRows}
use Rattle.mx_edit.specs.Table.{is_header, place_of_key}
use Rattle.mx_edit.specs.declared.table.TableRefusal.{TableRefusal}
use Rattle.mx_edit.specs.declared.table.TableRefusal.TheVariants.{TooBig, BadRow, BadNumber, NoMemory}
use Rattle.mx_tables.specs.Numbers.{number_of, int_of}
use Rattle.mx_tables.specs.Records.{Records, records_of}

-- ---- one record

-- what is said, put into other words
abbrev pub result_map : {A B E : Type 0} → (A → B) → Result A E → Result B E
result_map f (Ok x) = Ok (f x)
result_map f (Err e) = Err e

abbrev pub key_said : Option (List ℕ) → Option ℤ
key_said None = None
key_said (Some field) = int_of (number_of field)

-- its key, the whole number that the first field says
abbrev pub key_field : List (List ℕ) → Option ℤ
key_field fields = key_said (field_at fields 0)

abbrev pub number_then : ℕ → Option Value → Result (List Value) ℕ → Result (List Value) ℕ
number_then column None rest = Err column
number_then column (Some number) rest = result_map (λ numbers. number ∷ numbers) rest

-- the numbers of the fields from a column on, or the column of the first that says none
unfoldable pub numbers_said : ℕ → List (List ℕ) → Result (List Value) ℕ
numbers_said column [] = Ok []
numbers_said column (field ∷ fields) = number_then column (number_of field) (numbers_said (column + 1) fields)

-- a key and the numbers behind it
pub record RowSaid : Type 0 where
  pub key : ℤ
  pub numbers : List Value

abbrev pub row_said : ℕ → Option ℤ → Result (List Value) ℕ → Result RowSaid TableRefusal
row_said n key (Err column) = Err (BadNumber n column)
row_said n None (Ok numbers) = Err (BadRow n)
row_said n (Some key) (Ok numbers) = Ok (record { key = key; numbers = numbers })

-- the row that record n says by itself, where the header has so many fields: how many there are is told first, then the
-- numbers from the left, then the key
unfoldable pub record_said : ℕ → ℕ → List (List ℕ) → Result RowSaid TableRefusal
record_said count n fields =
    if not (length fields == count) then Err (BadRow n) else row_said n (key_field fields) (numbers_said 1 (drop 1 fields))

-- ---- all records behind the header

pub record RowsSaid : Type 0 where
  pub keys : List ℤ
  pub rows : List (List Value)

abbrev pub with_row : RowSaid → RowsSaid → RowsSaid
with_row row said = record { keys = row.key ∷ said.keys; rows = row.numbers ∷ said.rows }

-- the record that is told first, and the later ones behind it, unless an earlier one has its key
abbrev pub rows_then : ℕ → List ℤ → Result RowSaid TableRefusal → (RowSaid → Result RowsSaid TableRefusal) → Result RowsSaid TableRefusal
rows_then n earlier (Err trouble) later = Err trouble
rows_then n earlier (Ok row) later = if is_some (place_of_key earlier row.key) then Err (BadRow n) else result_map (with_row row) (later row)

-- the rows of the records from n on, of which the earlier ones have these keys, or the first trouble
unfoldable pub rows_said : ℕ → ℕ → List ℤ → Records → Result RowsSaid TableRefusal
rows_said count n earlier [] = Ok (record { keys = []; rows = [] })
rows_said count n earlier (fields ∷ more) =
    rows_then n earlier (record_said count n fields) (λ row. rows_said count (n + 1) (earlier ++ row.key ∷ []) more)

-- ---- the whole text

abbrev pub are_printable : List (List ℕ) → Bool
are_printable names = list_all (λ name. list_all is_printable name) names

-- the header, and the rows behind it
abbrev pub body_said : List (List ℕ) → Records → Result TableRows TableRefusal
body_said header more =
    if not (is_header header) then Err (BadRow 0)
    else result_map (λ said. record { columns = header; keys = said.keys; rows = said.rows }) (rows_said (length header) 1 [] more)

-- record 0 is the header
abbrev pub table_said : Records → Result TableRows TableRefusal
table_said [] = Err (BadRow 0)
table_said (header ∷ more) =
    if nat_lt 120 (length header) || nat_lt 10000 (length more) then Err TooBig
    else if not (are_printable header) then Err (BadRow 0)
    else body_said header more

abbrev pub table_of : List ℕ → Result TableRows TableRefusal
table_of text = table_said (records_of text)

-- the answer is what is said, or there was no memory
abbrev pub Answers : Result TableRows TableRefusal → Result TableRows TableRefusal → Type 0
Answers result says = (result ≡ says) ⊎ (result ≡ Err NoMemory)
