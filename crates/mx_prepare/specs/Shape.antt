-- The spaces of a model text with their bases, in order of creation: all that its static paths and their layers rest on.
use Rattle.std.specs.Prelude.{◌≡◌, Bool, true, false, List, map}
use Rattle.mx_edit.specs.declared.edit.Edit.{Edit}
use Rattle.mx_edit.specs.declared.edit.Edit.TheVariants as edit
use Rattle.mx_model.specs.Records.{Path, SpaceRecord, ModelRecord}
use Rattle.mx_model.specs.Apply.{changed}

abbrev pub Shape : Type 0
Shape = List (Path × List Path)

abbrev pub shape_of : ModelRecord → Shape
shape_of text = map (λ (s : SpaceRecord). (s.path, s.bases)) text.spaces

-- an edit that neither makes nor removes spaces, nor sets bases
abbrev pub keeps_shape : Edit → Bool
keeps_shape (edit.NewSpace parent name) = false
keeps_shape (edit.DelSpace path) = false
keeps_shape (edit.SetBases path bases) = false
keeps_shape other = true

abbrev pub EditsKeepShape : Type 0
EditsKeepShape = (text : ModelRecord) (e : Edit) → keeps_shape e ≡ true → shape_of (changed text e) ≡ shape_of text
