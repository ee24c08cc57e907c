-- Rings of spaces: from each space one comes to its children and to its bases.
use Rattle.std.specs.Prelude.{◌≡◌, List, [], ◌∷◌, ◌++◌, ◌⊎◌, IsTrue, is_some}
use Rattle.mx_c3.specs.Lists.{Has, Distinct}
use Rattle.mx_model.specs.Records.{Name, Path, SpaceRecord, ModelRecord}
use Rattle.mx_model.specs.Layers.{id_of}

abbrev pub IsDefined : ModelRecord → Path → Type 0
IsDefined text path = IsTrue (is_some (id_of text path))

-- the defined space of the first path has the second as base
pub record HasBase (text : ModelRecord) (path base : Path) : Type 0 where
  pub space : SpaceRecord
  pub has : Has text.spaces space
  pub at : space.path ≡ path
  pub among : Has space.bases base

-- the second is a defined child of the first
pub record HasChild (text : ModelRecord) (path child : Path) : Type 0 where
  pub name : Name
  pub at : child ≡ path ++ name ∷ []
  pub defined : IsDefined text child

-- from a defined space to one of its children or bases
abbrev pub Leads : ModelRecord → Path → Path → Type 0
Leads text from to = IsDefined text from × (HasChild text from to ⊎ HasBase text from to)

-- from one through each of these to another
abbrev pub LeadsThrough : ModelRecord → Path → List Path → Path → Type 0
LeadsThrough text from [] to = Leads text from to
LeadsThrough text from (next ∷ paths) to = Leads text from next × LeadsThrough text next paths to

-- each leads to the next and the last to the first, and none stands twice
abbrev pub IsRing : ModelRecord → List Path → Type 0
IsRing text [] = ⊥
IsRing text (path ∷ paths) = Distinct (path ∷ paths) × LeadsThrough text path paths path

-- from no path one comes back to it
abbrev pub HasNoRing : ModelRecord → Type 0
HasNoRing text = (path : Path) (paths : List Path) → LeadsThrough text path paths path → ⊥
