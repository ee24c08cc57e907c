-- The table of all static paths of a text.
use Rattle.std.specs.Prelude.{◌≡◌, List, [], ◌∷◌, ◌<◌, IsTrue, map, length, Option, Some, None, position, option_map, slice_get, Result, Ok, Err}
use Rattle.mx_value.specs.Name.{same_path}
use Rattle.mx_c3.specs.Lists.{Has}
use Rattle.mx_c3.specs.declared.space.SpaceId.{SpaceId}
use Rattle.mx_edit.specs.declared.refusal.EditRefusal.TheVariants as refusal
use Rattle.mx_model.specs.Records.{Path, ModelRecord}
use Rattle.mx_model.specs.declared.layers.Layered.TheVariants.{Layers, NotStatic}
use Rattle.mx_model.specs.Layers.{layers, is_static}
use Rattle.mx_model.specs.Walk.{Before, Meets, MeetsNothing}
use Rattle.mx_paths.specs.declared.id.PathId.{PathId}
use Rattle.mx_paths.specs.declared.refusal.PathsRefusal.{PathsRefusal}
use Rattle.mx_paths.specs.declared.refusal.PathsRefusal.TheVariants as refused

-- a path with its layers
abbrev pub Row : Type 0
Row = Path × List SpaceId

abbrev pub paths_in : List Row → List Path
paths_in rows = map (λ (row : Row). row.0) rows

-- each path stands before all that are behind it
abbrev pub IsInOrder : List Path → Type 0
IsInOrder [] = Unit {0}
IsInOrder (path ∷ paths) = ((q : Path) → Has paths q → Before path q) × IsInOrder paths

-- the rows have all static paths of the text in the order of the walk, so each once, each with its layers
pub record IsTableOf (text : ModelRecord) (rows : List Row) : Type 0 where
  pub layered : (row : Row) → Has rows row → layers text row.0 ≡ Layers row.1
  pub all : (path : Path) → IsTrue (is_static text path) → Has (paths_in rows) path
  pub in_order : IsInOrder (paths_in rows)

-- ---- by number

abbrev pub id_in : List Row → Path → Option PathId
id_in rows path = option_map (λ n. record { 0 = n }) (position (same_path path) (paths_in rows))

abbrev pub path_at : List Row → PathId → Option Path
path_at rows id = option_map (λ (row : Row). row.0) (slice_get rows id.0)

abbrev pub layers_at : List Row → PathId → Option (List SpaceId)
layers_at rows id = option_map (λ (row : Row). row.1) (slice_get rows id.0)

-- ---- what comes of the walk

-- the table exactly where the walk meets nothing, and else what it meets; only want of memory is free
abbrev pub Builds : ModelRecord → Result (List Row) PathsRefusal → Type 0
Builds text (Ok rows) = IsTableOf text rows × MeetsNothing text
Builds text (Err (refused.NoOrder path)) = Meets text (refusal.NoOrder path)
Builds text (Err (refused.TooMany limit)) = Meets text (refusal.TooMany limit)
Builds text (Err refused.NoMemory) = Unit {0}

-- ---- readers of a table

-- a path is found by the number of its row, and is not where it is no static one
abbrev pub IsFoundIn : ModelRecord → List Row → Path → Option PathId → Type 0
IsFoundIn text rows path (Some id) = (spaces : List SpaceId) × (layers text path ≡ Layers spaces) × (layers_at rows id ≡ Some spaces) × (id.0 < length rows)
IsFoundIn text rows path None = layers text path ≡ NotStatic

-- the layers of a row are those of its path
pub record IsLayered (text : ModelRecord) (rows : List Row) (id : PathId) (spaces : List SpaceId) : Type 0 where
  pub path : Path
  pub at : path_at rows id ≡ Some path
  pub is : layers text path ≡ Layers spaces
