-- What an edit does to a model text: it is refused, by the first of the refusals that applies, or makes a new text.
use Rattle.std.specs.Prelude.{◌≡◌, List, Some, None, Result, Ok, Err}
use Rattle.mx_edit.specs.declared.edit.Edit.{Edit}
use Rattle.mx_edit.specs.declared.refusal.EditRefusal.{EditRefusal}
use Rattle.mx_edit.specs.declared.refusal.EditRefusal.TheVariants as refusal
use Rattle.mx_edit.specs.declared.refusal.Limit.{Limit}
use Rattle.mx_model.specs.Records.{Path, ModelRecord}
use Rattle.mx_model.specs.Inputs.{without_unfit}
use Rattle.mx_model.specs.Change.{change, bound_edit}
use Rattle.mx_model.specs.Refused.{record_trouble}
use Rattle.mx_model.specs.Rings.{IsRing, HasNoRing}
use Rattle.mx_model.specs.Counts.{over}
use Rattle.mx_model.specs.Walk.{Meets, MeetsNothing}

-- the text with the change of an edit, and without the inputs that then fit no cells
abbrev pub changed : ModelRecord → Edit → ModelRecord
changed text e = without_unfit (change text (bound_edit text e))

-- the changed text has no ring and no number passes its greatest
pub record IsCounted (text : ModelRecord) : Type 0 where
  pub no_ring : HasNoRing text
  pub few : over text ≡ None

pub data Apply (text : ModelRecord) (e : Edit) : Result ModelRecord EditRefusal → Type 0 where
  -- by the records alone
  IsRefused : (why : EditRefusal) → record_trouble text e ≡ Some why → Apply text e (Err why)
  -- the changed text has a ring; where it has several, any of them is told
  HasRing : (ring : List Path) → record_trouble text e ≡ None → IsRing (changed text e) ring → Apply text e (Err (refusal.Cycle ring))
  -- a number would pass its greatest
  IsOver : (l : Limit) → record_trouble text e ≡ None → HasNoRing (changed text e) → over (changed text e) ≡ Some l → Apply text e (Err (refusal.TooMany l))
  -- the walk over the static paths of the changed text meets a trouble
  IsStopped : (why : EditRefusal) → record_trouble text e ≡ None → IsCounted (changed text e) → Meets (changed text e) why → Apply text e (Err why)
  IsAccepted : record_trouble text e ≡ None → IsCounted (changed text e) → MeetsNothing (changed text e) → Apply text e (Ok (changed text e))
