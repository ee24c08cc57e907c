-- Spaces that differ from one that was there before in some part alone.
use Rattle.std.specs.Prelude.{◌≡◌, ◌⊎◌, false, [], ◌∷◌, ◌++◌, Some, None}
use Rattle.std.specs.Map.{lookup}
use Rattle.mx_value.specs.Name.{same_name}
use Rattle.mx_model.specs.declared.kind.Kind.TheVariants as kind
use Rattle.mx_model.specs.Records.{Name, Path, SpaceRecord}
use Rattle.mx_model.specs.Change.{without}
use Rattle.mx_model.specs.Indexed.{Kinds}

-- both have the same path and bases, and the same cells and references under all names but this one
pub record KeepsOthers (name : Name) (old new : SpaceRecord) : Type 0 where
  pub path : new.path ≡ old.path
  pub bases : new.bases ≡ old.bases
  pub cells : (other : Name) → same_name name other ≡ false → lookup (same_name other) new.cells ≡ lookup (same_name other) old.cells
  pub references : (other : Name) → same_name name other ≡ false → lookup (same_name other) new.references ≡ lookup (same_name other) old.references

-- kinds without a child of this name, where they have one
abbrev pub LosesChild : Name → Kinds → Kinds → Type 0
LosesChild name kinds rest =
    ((lookup (same_name name) kinds ≡ Some kind.Child) × (rest ≡ without same_name kinds name) × (lookup (same_name name) rest ≡ None)) ⊎
    ((lookup (same_name name) kinds ≡ Some kind.Child → ⊥) × (rest ≡ kinds))

-- the kinds of a space at this path, without the child of a path that goes
pub data IsLeft (path at : Path) (kinds rest : Kinds) : Type 0 where
  NoParent : ((name : Name) → path ≡ at ++ name ∷ [] → ⊥) → rest ≡ kinds → IsLeft path at kinds rest
  Parent : (name : Name) → path ≡ at ++ name ∷ [] → LosesChild name kinds rest → IsLeft path at kinds rest
