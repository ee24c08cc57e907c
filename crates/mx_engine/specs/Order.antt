-- The order of the spaces whose members a path has.
use Rattle.std.specs.Prelude.{◌≡◌, List, map, Some}
use Rattle.mx_c3.specs.declared.space.SpaceId.{SpaceId}
use Rattle.mx_model.specs.Records.{Path, ModelRecord}
use Rattle.mx_model.specs.declared.layers.Layered.TheVariants.{Layers, NotStatic}
use Rattle.mx_model.specs.Layers.{layers}
use Rattle.mx_model.specs.Readers.{path_in}
use Rattle.mx_engine.specs.declared.refusal.OrderRefusal.{OrderRefusal}
use Rattle.mx_engine.specs.declared.refusal.OrderRefusal.TheVariants as refusal

-- these are the paths of the spaces
abbrev pub ArePaths : ModelRecord → List SpaceId → List Path → Type 0
ArePaths text spaces paths = map (path_in text) spaces ≡ map (λ p. Some p) paths

-- these are the paths of the layers of a static path, in their order
pub record AreLayers (text : ModelRecord) (path : Path) (paths : List Path) : Type 0 where
  pub spaces : List SpaceId
  pub layered : layers text path ≡ Layers spaces
  pub are : ArePaths text spaces paths

-- the refusal is that there is no such static path; only want of memory is free
abbrev pub IsUnordered : ModelRecord → Path → OrderRefusal → Type 0
IsUnordered text path refusal.NoSuchSpace = layers text path ≡ NotStatic
IsUnordered text path refusal.NoMemory = Unit {0}
