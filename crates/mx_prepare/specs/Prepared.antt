-- What comes of an edit that is prepared.
use Rattle.std.specs.Prelude.{◌≡◌, Result, Ok, Err}
use Rattle.mx_edit.specs.declared.edit.Edit.{Edit}
use Rattle.mx_edit.specs.declared.refusal.EditRefusal.{EditRefusal}
use Rattle.mx_edit.specs.declared.refusal.EditRefusal.TheVariants as refusal
use Rattle.mx_model.specs.Records.{ModelRecord}
use Rattle.mx_model.specs.Apply.{Apply}
use Rattle.mx_model.specs.Walk.{Meets, MeetsNothing}

-- the new text, or the refusal; only want of memory is free
abbrev pub Prepares : ModelRecord → Edit → Result ModelRecord EditRefusal → Type 0
Prepares text e (Err refusal.NoMemory) = Unit {0}
Prepares text e answer = Apply text e answer

-- The walk over the static paths of a text: it meets nothing, or it meets the refusal.
abbrev pub IsWalked : ModelRecord → Result ModelRecord EditRefusal → Type 0
IsWalked text (Ok made) = (made ≡ text) × MeetsNothing text
IsWalked text (Err refusal.NoMemory) = Unit {0}
IsWalked text (Err why) = Meets text why
