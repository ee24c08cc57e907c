-- Where the spaces of a text lead, by place: to their bases and their children.
use Rattle.std.specs.Prelude.{◌≡◌, ◌<◌, ◌⊎◌, ℕ, List, [], ◌∷◌, ◌++◌, length, Option, Some, None, option_and_then, slice_index_or, slice_set}
use Rattle.mx_c3.specs.declared.space.SpaceId.{SpaceId}
use Rattle.mx_c3.specs.Lists.{Has}
use Rattle.mx_c3.specs.Linearisation.{bases_of}
use Rattle.mx_model.specs.Records.{Name, Path, ModelRecord}
use Rattle.mx_model.specs.Paths.{split_last}
use Rattle.mx_model.specs.Layers.{paths_of, id_of, base_lists}

-- the space below which a path stands
abbrev pub parent_of : ModelRecord → Path → Option SpaceId
parent_of text path = option_and_then (λ (split : Path × Name). id_of text split.0) (split_last path)

abbrev pub path_at : ModelRecord → SpaceId → Path
path_at text s = slice_index_or (paths_of text) s.0 []

-- the second is a child of the first, and stands before this place
pub record IsChild (text : ModelRecord) (count : ℕ) (s child : SpaceId) : Type 0 where
  pub before : child.0 < count
  pub below : parent_of text (path_at text child) ≡ Some s

-- these lists have the bases of each space, and of its children those before this place
pub record LinksUpTo (text : ModelRecord) (count : ℕ) (lists : List (List SpaceId)) : Type 0 where
  pub long : length lists ≡ length text.spaces
  pub only : (s t : SpaceId) → Has (bases_of lists s) t → Has (bases_of (base_lists text) s) t ⊎ IsChild text count s t
  pub bases : (s t : SpaceId) → Has (bases_of (base_lists text) s) t → Has (bases_of lists s) t
  pub children : (s t : SpaceId) → IsChild text count s t → Has (bases_of lists s) t

-- the bases and the children of each space
abbrev pub AreLinks : ModelRecord → List (List SpaceId) → Type 0
AreLinks text lists = LinksUpTo text (length text.spaces) lists

-- one child more, where it has a parent
abbrev pub with_child : Option SpaceId → SpaceId → List (List SpaceId) → List (List SpaceId)
with_child None child lists = lists
with_child (Some s) child lists = slice_set lists s.0 (bases_of lists s ++ child ∷ [])
