-- What a text keeps beside its record, so that spaces, their bases and the kinds of their members are found by hash and by
-- place.
use Rattle.std.specs.Prelude.{◌≡◌, ◌<◌, ◌≤◌, ◌^◌, List, [], ◌∷◌, length, map, take, Some, option_map}
use Rattle.std.specs.List.{filter_map}
use Rattle.std.specs.Map.{lookup}
use Rattle.mx_value.specs.Name.{same_name}
use Rattle.mx_c3.specs.Lists.{Has, Distinct}
use Rattle.mx_c3.specs.declared.space.SpaceId.{SpaceId}
use Rattle.mx_model.specs.declared.kind.Kind.{Kind}
use Rattle.mx_model.specs.Records.{Name, Path, SpaceRecord, ModelRecord}
use Rattle.mx_model.specs.Layers.{paths_of, id_in, space_of, lists_in, base_lists}
use Rattle.mx_model.specs.Paths.{split_last}
use Rattle.mx_model.specs.Parents.{HasParent}
use Rattle.mx_model.specs.Binding.{own_member}
use Rattle.mx_model.specs.Lookup.{kind_of}

-- the kinds of a space's names
abbrev pub Kinds : Type 0
Kinds = List (Name × Kind)

-- a table tells what a space has itself of each name
abbrev pub Tells : ModelRecord → SpaceRecord → Kinds → Type 0
Tells text s kinds = (name : Name) → lookup (same_name name) kinds ≡ option_map kind_of (own_member text name s)

-- it tells what the space at a place has
abbrev pub TellsAt : ModelRecord → SpaceId → Kinds → Type 0
TellsAt text at kinds = (s : SpaceRecord) → space_of text at ≡ Some s → Tells text s kinds

-- each of the tables tells its space
abbrev pub TellAll : ModelRecord → List SpaceRecord → List Kinds → Type 0
TellAll text [] [] = Unit {0}
TellAll text (s ∷ spaces) (kinds ∷ tables) = Tells text s kinds × TellAll text spaces tables
TellAll text _ _ = ⊥

-- spaces that can stand in a text: each path once, at the top or below a defined one, with a table of kinds for each; and
-- places fit their numbers
pub record ArePlaced (tables : List Kinds) (text : ModelRecord) : Type 0 where
  pub once : Distinct (paths_of text)
  pub kinds : TellAll text text.spaces tables
  pub parents : (path : Path) → Has (paths_of text) path → HasParent text (split_last path)
  pub few : length text.spaces < 2 ^ 32

-- paths begin with these
pub record IsFront (front paths : List Path) : Type 0 where
  pub within : length front ≤ length paths
  pub is : front ≡ take (length front) paths

-- the paths of spaces, and the bases of each by its place
pub record AreBeside (keys : List Path) (lists : List (List SpaceId)) (spaces : List SpaceRecord) : Type 0 where
  pub paths : keys ≡ map (λ (s : SpaceRecord). s.path) spaces
  pub bases : lists ≡ lists_in keys spaces
  pub few : length spaces < 2 ^ 32

-- the places of bases among paths, of each one
pub record AreAll (paths bases : List Path) (ids : List SpaceId) : Type 0 where
  pub are : ids ≡ filter_map (id_in paths) bases
  pub all : length ids ≡ length bases

-- beside them their paths, and the bases of each by its place
pub record IsIndexed (keys : List Path) (lists : List (List SpaceId)) (tables : List Kinds) (text : ModelRecord) : Type 0 where
  pub paths : keys ≡ paths_of text
  pub bases : lists ≡ base_lists text
  pub placed : ArePlaced tables text
