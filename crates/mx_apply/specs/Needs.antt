-- What an edit needs of its text so that its refusals can be told and it can be carried out: layers, where it names a path to
-- be looked up. An edit of records alone needs nothing.
use Rattle.std.specs.Prelude.{Bool, true, false, IsTrue}
use Rattle.mx_edit.specs.declared.reference.RefValue.{RefValue}
use Rattle.mx_edit.specs.declared.reference.RefValue.TheVariants as ref
use Rattle.mx_edit.specs.declared.edit.Edit.{Edit}
use Rattle.mx_edit.specs.declared.edit.Edit.TheVariants as edit
use Rattle.mx_model.specs.Records.{ModelRecord}
use Rattle.mx_model.specs.Sound.{IsSound}

-- a reference with a target names a path
abbrev pub names_path : RefValue → Bool
names_path (ref.Target path fixed) = true
names_path _ = false

-- so does a reference that an edit sets, and the address of an input
abbrev pub looks_up : Edit → Bool
looks_up (edit.SetRef path name value) = names_path value
looks_up (edit.SetInput at name arguments value) = true
looks_up (edit.DelInput at name arguments) = true
looks_up _ = false

-- whether what a reference names is there can be found
abbrev pub CanFind : ModelRecord → RefValue → Type 0
CanFind text value = IsTrue (names_path value) → IsSound text

-- what comes of an edit can be told
abbrev pub CanTell : ModelRecord → Edit → Type 0
CanTell text e = IsTrue (looks_up e) → IsSound text
