-- References of a space, at a path that is not the empty one of the model.
use Rattle.std.proofs.Common.{◌≡◌, [], ◌∷◌, refl}
use Rattle.mx_value.specs.Name.{same_name}
use Rattle.mx_edit.specs.declared.reference.RefValue.{RefValue}
use Rattle.mx_model.specs.Records.{Name, Path, SpaceRecord, ModelRecord}
use Rattle.mx_model.specs.Change.{at_space, define, without, set_reference, remove_reference}

module _ (text : ModelRecord) (name : Name) where
  pub set_own : (path : Path) (value : RefValue) → (path ≡ [] → ⊥) → at_space text path (λ (s : SpaceRecord). record s { references = define same_name s.references name value }) ≡ set_reference text path name value
  set_own [] value some = absurd (some refl)
  set_own (first ∷ names) value some = refl

  pub remove_own : (path : Path) → (path ≡ [] → ⊥) → at_space text path (λ (s : SpaceRecord). record s { references = without same_name s.references name }) ≡ remove_reference text path name
  remove_own [] some = absurd (some refl)
  remove_own (first ∷ names) some = refl
