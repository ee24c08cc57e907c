-- What becomes of a text after the last line of its model file. The lines were carried out by the records alone, so rings,
-- numbers and the walk over the static paths are looked at now. The tables that lines name are read later.
use Rattle.std.specs.Prelude.{◌≡◌, ℕ, List, Option, Some, None, Result, Ok, Err, length, nat_lt, if◌then◌else◌}
use Rattle.std.specs.Option.{option_or}
use Rattle.mx_edit.specs.Rows.{TableRows}
use Rattle.mx_edit.specs.declared.refusal.EditRefusal.{EditRefusal}
use Rattle.mx_edit.specs.declared.refusal.EditRefusal.TheVariants as refusal
use Rattle.mx_edit.specs.declared.refusal.Limit.{Limit}
use Rattle.mx_edit.specs.declared.refusal.Limit.TheVariants as limit
use Rattle.mx_model.specs.Records.{Name, Path, ModelRecord}
use Rattle.mx_model.specs.Rings.{IsRing, HasNoRing}
use Rattle.mx_model.specs.Counts.{greatest_count, over}
use Rattle.mx_model.specs.Walk.{Meets, MeetsNothing}
use Rattle.mx_whole_edits.specs.Laid.{IsLaid}

abbrev pub tables_over : ℕ → Option Limit
tables_over tables = if nat_lt (greatest_count limit.Tables) tables then Some limit.Tables else None

-- the first number that passes its greatest, where so many tables are to come
abbrev pub over_with : ModelRecord → ℕ → Option Limit
over_with text tables = option_or (over text) (tables_over tables)

pub data Becomes (text : ModelRecord) (tables : ℕ) : Result ModelRecord EditRefusal → Type 0 where
  -- the text has a ring; where it has several, any of them is told
  HasRing : (ring : List Path) → IsRing text ring → Becomes text tables (Err (refusal.Cycle ring))
  -- a number passes its greatest
  IsOver : (l : Limit) → HasNoRing text → over_with text tables ≡ Some l → Becomes text tables (Err (refusal.TooMany l))
  -- the walk over the static paths meets a trouble
  IsStopped : (why : EditRefusal) → HasNoRing text → over_with text tables ≡ None → Meets text why → Becomes text tables (Err why)
  IsComplete : HasNoRing text → over_with text tables ≡ None → MeetsNothing text → Becomes text tables (Ok text)

-- only want of memory is free
abbrev pub Completes : ModelRecord → ℕ → Result ModelRecord EditRefusal → Type 0
Completes text tables (Err refusal.NoMemory) = Unit {0}
Completes text tables answer = Becomes text tables answer

-- ---- laws

-- the numbers that are looked at are those of the text with its tables
abbrev pub CountsAreThose : Type 0
CountsAreThose = (text : ModelRecord) (tables : List (Name × TableRows)) → IsLaid text → over (record text { tables = tables }) ≡ over_with text (length tables)
