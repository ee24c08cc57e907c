-- The rows in front of the first record that says none by itself. Keys are looked at later, all at once.
use Rattle.std.specs.Prelude.{ℕ, ℤ, ◌+◌, List, [], ◌∷◌, ◌++◌, Option, Some, None, Result, Ok, Err}
use Rattle.mx_value.specs.declared.value.Value.{Value}
use Rattle.mx_edit.specs.declared.table.TableRefusal.{TableRefusal}
use Rattle.mx_tables.specs.Records.{Records}
use Rattle.mx_tables.specs.Reading.{RowSaid, record_said}

pub record FrontSaid : Type 0 where
  pub keys : List ℤ
  pub rows : List (List Value)
  pub trouble : Option TableRefusal

abbrev pub front_then : Result RowSaid TableRefusal → FrontSaid → FrontSaid
front_then (Err trouble) rest = record { keys = []; rows = []; trouble = Some trouble }
front_then (Ok row) rest = record { keys = row.key ∷ rest.keys; rows = row.numbers ∷ rest.rows; trouble = rest.trouble }

unfoldable pub front_said : ℕ → ℕ → Records → FrontSaid
front_said count n [] = record { keys = []; rows = []; trouble = None }
front_said count n (fields ∷ more) = front_then (record_said count n fields) (front_said count (n + 1) more)

-- with these rows in front
abbrev pub behind : List ℤ → List (List Value) → FrontSaid → FrontSaid
behind keys rows front = record { keys = keys ++ front.keys; rows = rows ++ front.rows; trouble = front.trouble }
