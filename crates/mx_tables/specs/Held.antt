-- The tables that a program holds.
use Rattle.std.specs.Prelude.{◌≡◌, ◌≤◌, ◌<◌, ◌^◌, ℤ, pos, negsuc, true, List, [], ◌∷◌, unsigned_abs}
use Rattle.mx_value.specs.declared.value.Value.{Value}
use Rattle.mx_value.specs.declared.value.Value.TheVariants as made
use Rattle.mx_edit.specs.Rows.{TableRows}
use Rattle.mx_edit.specs.Table.{IsTable}
use Rattle.mx_tables.specs.Reading.{are_printable}

-- from -2^63 to 2^63 - 1
abbrev pub IsInt : ℤ → Type 0
IsInt (pos n) = n < 2 ^ 63
IsInt (negsuc n) = n < 2 ^ 63

-- a number is within its type: a decimal number, in 10^-9, is at most ten billions
abbrev pub IsWithin : Value → Type 0
IsWithin (made.Int n) = IsInt n
IsWithin (made.Fix x) = unsigned_abs x ≤ 10 ^ 19
IsWithin _ = Unit {0}

abbrev pub AreInts : List ℤ → Type 0
AreInts [] = Unit {0}
AreInts (key ∷ keys) = IsInt key × AreInts keys

abbrev pub AreWithin : List Value → Type 0
AreWithin [] = Unit {0}
AreWithin (number ∷ numbers) = IsWithin number × AreWithin numbers

abbrev pub RowsWithin : List (List Value) → Type 0
RowsWithin [] = Unit {0}
RowsWithin (row ∷ rows) = AreWithin row × RowsWithin rows

-- names are printable, keys and numbers within their types, and the rows make a table: this is so of every `Table`, the
-- last by what it keeps
pub record IsHeld (t : TableRows) : Type 0 where
  pub names : are_printable t.columns ≡ true
  pub keys : AreInts t.keys
  pub rows : RowsWithin t.rows
  pub table : IsTable t
