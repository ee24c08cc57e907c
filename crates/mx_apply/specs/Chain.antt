-- Edits one after the other.
use Rattle.std.specs.Prelude.{Result, Ok, Err}
use Rattle.mx_c3.specs.Lists.{Has, Distinct}
use Rattle.mx_edit.specs.declared.edit.Edit.{Edit}
use Rattle.mx_edit.specs.declared.edit.Edit.TheVariants as edit
use Rattle.mx_edit.specs.declared.refusal.EditRefusal.{EditRefusal}
use Rattle.mx_model.specs.Records.{SpaceRecord, ModelRecord}
use Rattle.mx_model.specs.Rings.{HasNoRing}
use Rattle.mx_model.specs.Sound.{IsSound}
use Rattle.mx_model.specs.Valid.{Valid}

-- no space has a base twice
abbrev pub BasesAreOnce : ModelRecord → Type 0
BasesAreOnce text = (s : SpaceRecord) → Has text.spaces s → Distinct s.bases

-- nor is there a ring
pub record IsRingless (text : ModelRecord) : Type 0 where
  pub bases : BasesAreOnce text
  pub no_ring : HasNoRing text

-- new bases can make a ring; no other edit does
abbrev pub MakesNoRing : Edit → ModelRecord → Type 0
MakesNoRing (edit.SetBases path bases) made = HasNoRing made
MakesNoRing _ made = Unit {0}

-- another edit can follow
pub record CanGoOn (text : ModelRecord) : Type 0 where
  pub ringless : IsRingless text
  pub sound : IsSound text

-- a text that an edit makes of one without rings
abbrev pub GoesOn : ModelRecord → Edit → Result ModelRecord EditRefusal → Type 0
GoesOn text e (Ok made) = IsRingless text → MakesNoRing e made → CanGoOn made
GoesOn text e (Err why) = Unit {0}

-- from a valid text another edit can follow
abbrev pub ValidGoesOn : Type 0
ValidGoesOn = (text : ModelRecord) → Valid text → CanGoOn text
