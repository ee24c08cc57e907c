-- Names of spaces, from edit to edit and from line to line of a model file.
use Rattle.std.specs.Prelude.{◌≡◌, None}
use Rattle.mx_edit.specs.declared.edit.Edit.{Edit}
use Rattle.mx_model.specs.Records.{ModelRecord, empty_text}
use Rattle.mx_model.specs.Change.{change, bound_edit}
use Rattle.mx_model.specs.Refused.{record_trouble}
use Rattle.mx_paths.specs.Names.{IsNamed}
use Rattle.mx_whole_edits.specs.Laid.{IsLaid, LaysOut}

-- reading begins from the text without spaces
abbrev pub EmptyIsNamed : Type 0
EmptyIsNamed = IsNamed empty_text

-- the spaces of a text have names still, whatever the edit
abbrev pub EditsKeepNames : Type 0
EditsKeepNames = (text : ModelRecord) (e : Edit) → IsNamed text → record_trouble text e ≡ None → IsNamed (change text (bound_edit text e))

-- a line leaves a text laid out, and its spaces named
abbrev pub KeepsLine : ModelRecord → Edit → ModelRecord → Type 0
KeepsLine text e made = IsLaid text → IsNamed text → LaysOut e → IsLaid made × IsNamed made
