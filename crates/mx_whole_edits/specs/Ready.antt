-- Texts that are valid but for the walk over their static paths, and whose parameters have literals as defaults.
use Rattle.std.specs.Prelude.{◌≡◌, None, Result, Ok, Err}
use Rattle.mx_edit.specs.declared.edit.Edit.{Edit}
use Rattle.mx_edit.specs.declared.refusal.EditRefusal.{EditRefusal}
use Rattle.mx_model.specs.Records.{ModelRecord}
use Rattle.mx_model.specs.Literals.{HasLiterals, IsRead}
use Rattle.mx_model.specs.Rings.{HasNoRing}
use Rattle.mx_model.specs.Counts.{over}
use Rattle.mx_model.specs.Walk.{MeetsNothing}
use Rattle.mx_model.specs.Valid.{Valid, NamesAreDistinct, BasesAreDefined, InputsFit, ReferencesFit}

pub record IsReady (text : ModelRecord) : Type 0 where
  pub names : NamesAreDistinct text
  pub bases : BasesAreDefined text
  pub no_ring : HasNoRing text
  pub few : over text ≡ None
  pub inputs : InputsFit text
  pub references : ReferencesFit text
  pub literals : HasLiterals text

-- with a walk that meets nothing it is valid, and what is valid is ready where its defaults are literals
abbrev pub ReadyIsValid : Type 0
ReadyIsValid = (text : ModelRecord) → IsReady text → MeetsNothing text → Valid text

abbrev pub ValidIsReady : Type 0
ValidIsReady = (text : ModelRecord) → Valid text → HasLiterals text → IsReady text

-- an edit leaves a ready text ready
abbrev pub KeepsReady : ModelRecord → Edit → Result ModelRecord EditRefusal → Type 0
KeepsReady text e (Ok made) = IsReady text → IsRead e → IsReady made
KeepsReady text e (Err why) = Unit {0}
