-- Names of spaces.
use Rattle.std.specs.Prelude.{[], ◌∷◌, IsTrue}
use Rattle.mx_value.specs.Name.{is_name}
use Rattle.mx_c3.specs.Lists.{Has}
use Rattle.mx_model.specs.Records.{Path, ModelRecord}
use Rattle.mx_model.specs.Layers.{paths_of}

-- a path is made of names
abbrev pub AreNames : Path → Type 0
AreNames [] = Unit {0}
AreNames (name ∷ names) = IsTrue (is_name name) × AreNames names

-- the path of each defined space is made of names, of one at least
pub record IsNamed (text : ModelRecord) : Type 0 where
  pub names : (path : Path) → Has (paths_of text) path → AreNames path
  pub some : Has (paths_of text) [] → ⊥
