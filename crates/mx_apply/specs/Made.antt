-- What comes of an edit by the records alone.
use Rattle.std.specs.Prelude.{◌≡◌, Some, None, Result, Ok, Err}
use Rattle.mx_edit.specs.declared.edit.Edit.{Edit}
use Rattle.mx_edit.specs.declared.refusal.EditRefusal.{EditRefusal}
use Rattle.mx_edit.specs.declared.refusal.EditRefusal.TheVariants as refusal
use Rattle.mx_model.specs.Records.{ModelRecord}
use Rattle.mx_model.specs.Change.{change, bound_edit}
use Rattle.mx_model.specs.Refused.{record_trouble}

-- a refusal is the first that applies, and only want of memory is free
abbrev pub IsTrouble : ModelRecord → Edit → EditRefusal → Type 0
IsTrouble text e refusal.NoMemory = Unit {0}
IsTrouble text e why = record_trouble text e ≡ Some why

-- a text is made where none applies, and is the change of the edit
abbrev pub IsMade : ModelRecord → Edit → Result ModelRecord EditRefusal → Type 0
IsMade text e (Ok made) = (record_trouble text e ≡ None) × (made ≡ change text (bound_edit text e))
IsMade text e (Err why) = IsTrouble text e why
