-- Texts of which the static paths and their layers are the same.
use Rattle.std.specs.Prelude.{◌≡◌, List}
use Rattle.mx_model.specs.Records.{Path, ModelRecord}
use Rattle.mx_model.specs.Layers.{paths_of, base_lists, layers}
use Rattle.mx_model.specs.Walk.{MeetsNothing}
use Rattle.mx_paths.specs.Table.{Row, IsTableOf}

-- their spaces have the same paths and bases
pub record IsBuiltAlike (before after : ModelRecord) : Type 0 where
  pub paths : paths_of after ≡ paths_of before
  pub bases : base_lists after ≡ base_lists before

abbrev pub LayersStay : Type 0
LayersStay = (before after : ModelRecord) (path : Path) → IsBuiltAlike before after → layers after path ≡ layers before path

-- so one table is that of both
abbrev pub TableStays : Type 0
TableStays = (before after : ModelRecord) (rows : List Row) → IsBuiltAlike before after → IsTableOf before rows → IsTableOf after rows

-- and the walk meets nothing in the other either
abbrev pub WalkStays : Type 0
WalkStays = (before after : ModelRecord) → IsBuiltAlike before after → MeetsNothing before → MeetsNothing after
