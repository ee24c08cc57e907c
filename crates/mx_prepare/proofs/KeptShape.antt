-- Edits that keep the shape of a text.
use Rattle.std.proofs.Common.{◌≡◌, Bool, true, false, List, [], ◌∷◌, map, refl, ap, ◌∙◌, if◌then◌else◌}
use Rattle.std.proofs.lemmas.Simd.{map-map}
use Rattle.mx_value.specs.Name.{same_name, same_path}
use Rattle.mx_edit.specs.declared.edit.Edit.TheVariants as edit
use Rattle.mx_edit.specs.declared.reference.RefValue.{RefValue}
use Rattle.mx_model.specs.Records.{Name, Path, SpaceRecord, ModelRecord}
use Rattle.mx_model.specs.Change.{at_space, set_reference, remove_reference, define, without, define_cells, set_allow}
use Rattle.mx_prepare.specs.Shape.{shape_of, EditsKeepShape}

-- a space as its shape sees it
abbrev bare : SpaceRecord → Path × List Path
bare s = (s.path, s.bases)

either : (b : Bool) (f s : SpaceRecord) → bare f ≡ bare s → bare (if b then f else s) ≡ bare s
either true f s same = same
either false f s same = refl

module _ (change : SpaceRecord → SpaceRecord) (same : (s : SpaceRecord) → bare (change s) ≡ bare s) where
  kept_at : (text : ModelRecord) (path : Path) → shape_of (at_space text path change) ≡ shape_of text
  kept_at text path =
      map-map bare (λ (s : SpaceRecord). if same_path s.path path then change s else s) text.spaces
      ∙ ap (λ (shape : SpaceRecord → Path × List Path). map shape text.spaces) (λ i. λ s. either (same_path s.path path) (change s) s (same s) i)

kept_set : (text : ModelRecord) (path : Path) (name : Name) (value : RefValue) → shape_of (set_reference text path name value) ≡ shape_of text
kept_set text [] name value = refl
kept_set text (first ∷ names) name value = kept_at (λ (s : SpaceRecord). record s { references = define same_name s.references name value }) (λ s. refl) text (first ∷ names)

kept_removed : (text : ModelRecord) (path : Path) (name : Name) → shape_of (remove_reference text path name) ≡ shape_of text
kept_removed text [] name = refl
kept_removed text (first ∷ names) name = kept_at (λ (s : SpaceRecord). record s { references = without same_name s.references name }) (λ s. refl) text (first ∷ names)

pub edits_keep_shape : EditsKeepShape
edits_keep_shape text (edit.NewSpace parent name) is = cc
edits_keep_shape text (edit.DelSpace path) is = cc
edits_keep_shape text (edit.SetBases path bases) is = cc
edits_keep_shape text (edit.SetCells path name formula) is = kept_at (λ (s : SpaceRecord). record s { cells = define_cells s.cells name formula }) (λ s. refl) text path
edits_keep_shape text (edit.DelCells path name) is = kept_at (λ (s : SpaceRecord). record s { cells = without same_name s.cells name }) (λ s. refl) text path
edits_keep_shape text (edit.SetAllowNone path name flag) is = kept_at (λ (s : SpaceRecord). record s { cells = set_allow s.cells name flag }) (λ s. refl) text path
edits_keep_shape text (edit.SetRef path name value) is = kept_set text path name value
edits_keep_shape text (edit.DelRef path name) is = kept_removed text path name
edits_keep_shape text (edit.SetParams path params) is = kept_at (λ (s : SpaceRecord). record s { params = params }) (λ s. refl) text path
edits_keep_shape text (edit.SetInput at name arguments value) is = refl
edits_keep_shape text (edit.DelInput at name arguments) is = refl
edits_keep_shape text (edit.SetTable name table) is = refl
