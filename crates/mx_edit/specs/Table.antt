-- Tables: when rows make one, and what stands at a key and a column.
use Rattle.std.specs.Prelude.{◌≡◌, ℕ, ℤ, Result, Err, IsOkUnless, Bool, true, false, List, [], ◌∷◌, ◌++◌, Option, Some, None, ◌||◌, ◌&&◌, ◌==◌, ◌-◌, ◌+◌, not, nat_lt, nat_le, length, drop, slice_get, option_and_then, if◌then◌else◌, position}
use Rattle.std.specs.Ordering.{int_eq}
use Rattle.std.specs.List.{list_any}
use Rattle.std.specs.Cmp.Lexicographic.{pointwise}
use Rattle.mx_value.specs.declared.value.Value.{Value}
use Rattle.mx_value.specs.declared.value.Value.TheVariants as values
use Rattle.mx_edit.specs.Rows.{TableRows}
use Rattle.mx_edit.specs.declared.table.TableRefusal.{TableRefusal}
use Rattle.mx_edit.specs.declared.table.TableRefusal.TheVariants.{TooBig, BadRow, BadNumber, NoMemory}

-- ---- when rows make a table

-- a decimal number or a whole one; a flag is none
unfoldable pub is_number : Value → Bool
is_number (values.Int n) = true
is_number (values.Fix x) = true
is_number _ = false

-- a name of 1 to 64 bytes
unfoldable pub is_column : List ℕ → Bool
is_column name = nat_lt 0 (length name) && nat_le (length name) 64

abbrev pub is_among : List (List ℕ) → List ℕ → Bool
is_among names name = list_any (λ other. pointwise ◌==◌ other name) names

-- each is a name of a column, and stands once, also with the earlier ones
unfoldable pub are_columns : List (List ℕ) → List (List ℕ) → Bool
are_columns earlier [] = true
are_columns earlier (name ∷ names) = is_column name && (not (is_among earlier name) && are_columns (earlier ++ name ∷ []) names)

-- the first column is that of the keys, and there is another one
unfoldable pub is_header : List (List ℕ) → Bool
is_header columns = nat_le 2 (length columns) && are_columns [] columns

abbrev pub number_trouble : ℕ → Option ℕ → Option TableRefusal
number_trouble n None = None
number_trouble n (Some place) = Some (BadNumber n (place + 1))

abbrev pub key_trouble : ℕ → Option ℕ → Option TableRefusal
key_trouble n None = None
key_trouble n (Some earlier) = Some (BadRow n)

abbrev pub or_else : Option TableRefusal → Option TableRefusal → Option TableRefusal
or_else None other = other
or_else (Some trouble) other = Some trouble

-- where the first value stands that is no number
abbrev pub first_other : List Value → Option ℕ
first_other row = position (λ v. not (is_number v)) row

-- the row of a key
abbrev pub place_of_key : List ℤ → ℤ → Option ℕ
place_of_key keys key = position (λ other. int_eq other key) keys

-- the trouble of row n, of which the earlier rows have these keys: the number of its fields first, then its numbers from
-- the left, then its key
unfoldable pub row_trouble : ℕ → ℕ → List ℤ → ℤ → List Value → Option TableRefusal
row_trouble width n earlier key row =
    if not (length row == width) then Some (BadRow n)
    else or_else (number_trouble n (first_other row)) (key_trouble n (place_of_key earlier key))

-- the first trouble of the rows from n on
unfoldable pub rows_trouble : ℕ → ℕ → List ℤ → List ℤ → List (List Value) → Option TableRefusal
rows_trouble width n earlier (key ∷ keys) (row ∷ rows) =
    or_else (row_trouble width n earlier key row) (rows_trouble width (n + 1) (earlier ++ key ∷ []) keys rows)
rows_trouble width n earlier _ _ = None

unfoldable pub table_trouble : TableRows → Option TableRefusal
table_trouble t =
    if nat_lt 120 (length t.columns) || nat_lt 10000 (length t.keys) then Some TooBig
    else if not (is_header t.columns) then Some (BadRow 0)
    else rows_trouble (length t.columns - 1) 1 [] t.keys t.rows

-- a row for each key, and no trouble: what every table keeps
pub record IsTable (t : TableRows) : Type 0 where
  pub even : length t.keys ≡ length t.rows
  pub sound : table_trouble t ≡ None

-- the answer to rows that have this trouble, or none
abbrev pub Answers : Result TableRows TableRefusal → Option TableRefusal → Type 0
Answers result (Some trouble) = result ≡ Err trouble
Answers result None = IsOkUnless result NoMemory

-- ---- what stands in it

-- the place of a column among those behind the first
unfoldable pub place_of : List (List ℕ) → List ℕ → Option ℕ
place_of columns name = position (λ other. pointwise ◌==◌ other name) (drop 1 columns)

-- in a row, at a place
abbrev pub item_at : List (List Value) → Option ℕ → Option ℕ → Option Value
item_at rows (Some row) (Some place) = option_and_then (λ items. slice_get items place) (slice_get rows row)
item_at rows _ _ = None

-- at a key and the name of a column, the column of the keys apart
abbrev pub entry_at : TableRows → ℤ → List ℕ → Option Value
entry_at t key name = item_at t.rows (place_of_key t.keys key) (place_of t.columns name)
