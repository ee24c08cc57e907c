-- What comes of an edit before the walk over the static paths.
use Rattle.std.specs.Prelude.{◌≡◌, Bool, true, false, List, Some, None, Result, Ok, Err}
use Rattle.mx_edit.specs.declared.edit.Edit.{Edit}
use Rattle.mx_edit.specs.declared.edit.Edit.TheVariants as edit
use Rattle.mx_edit.specs.declared.refusal.EditRefusal.{EditRefusal}
use Rattle.mx_edit.specs.declared.refusal.EditRefusal.TheVariants as refusal
use Rattle.mx_edit.specs.declared.refusal.Limit.{Limit}
use Rattle.mx_model.specs.Records.{Path, ModelRecord}
use Rattle.mx_model.specs.Refused.{record_trouble}
use Rattle.mx_model.specs.Rings.{IsRing, HasNoRing}
use Rattle.mx_model.specs.Counts.{over}
use Rattle.mx_model.specs.Apply.{changed, IsCounted, Apply}
use Rattle.mx_model.specs.Walk.{Meets, MeetsNothing}

-- why an edit is refused, in this order
pub data Stops (text : ModelRecord) (e : Edit) : EditRefusal → Type 0 where
  -- by the records alone
  IsRefused : (why : EditRefusal) → record_trouble text e ≡ Some why → Stops text e why
  -- the changed text has a ring; where it has several, any of them is told
  HasRing : (ring : List Path) → record_trouble text e ≡ None → IsRing (changed text e) ring → Stops text e (refusal.Cycle ring)
  -- a number would pass its greatest
  IsOver : (l : Limit) → record_trouble text e ≡ None → HasNoRing (changed text e) → over (changed text e) ≡ Some l → Stops text e (refusal.TooMany l)

-- only want of memory is free
abbrev pub IsStopped : ModelRecord → Edit → EditRefusal → Type 0
IsStopped text e refusal.NoMemory = Unit {0}
IsStopped text e why = Stops text e why

-- a text that only the walk can still refuse
pub record IsAccepted (text : ModelRecord) (e : Edit) (made : ModelRecord) : Type 0 where
  pub free : record_trouble text e ≡ None
  pub counted : IsCounted (changed text e)
  pub is : made ≡ changed text e

abbrev pub IsApplied : ModelRecord → Edit → Result ModelRecord EditRefusal → Type 0
IsApplied text e (Ok made) = IsAccepted text e made
IsApplied text e (Err why) = IsStopped text e why

-- with the walk this is the whole edit
pub record IsWhole (text : ModelRecord) (e : Edit) : Type 0 where
  pub stops : (why : EditRefusal) → Stops text e why → Apply text e (Err why)
  pub meets : (made : ModelRecord) (why : EditRefusal) → IsAccepted text e made → Meets made why → Apply text e (Err why)
  pub accepts : (made : ModelRecord) → IsAccepted text e made → MeetsNothing made → Apply text e (Ok made)

abbrev pub EditsAreWhole : Type 0
EditsAreWhole = (text : ModelRecord) (e : Edit) → IsWhole text e

-- an edit of an input
abbrev pub is_of_input : Edit → Bool
is_of_input (edit.SetInput at name arguments value) = true
is_of_input (edit.DelInput at name arguments) = true
is_of_input _ = false
