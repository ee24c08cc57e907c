-- Families of which the first spaces of a text have been entered.
use Rattle.std.specs.Prelude.{◌≡◌, ℕ, ◌<◌, ◌≤◌, List, [], ◌∷◌, length, take, drop, slice_index_or, nat_lt, Option, Some, None, if◌then◌else◌}
use Rattle.mx_value.specs.Name.{same_name}
use Rattle.mx_c3.specs.declared.space.SpaceId.{SpaceId}
use Rattle.mx_model.specs.Records.{Name, ModelRecord}
use Rattle.mx_model.specs.Layers.{id_of, child_of}
use Rattle.mx_paths.specs.declared.child.Child.{Child}
use Rattle.mx_paths.specs.Siblings.{Precedes, IsRising, named}
use Rattle.mx_c3.specs.Lists.{Has}

-- a child is entered
pub record IsEntered (child : Child) (old new : List Child) : Type 0 where
  pub rising : IsRising new
  pub has : (n : Name) → named n new ≡ (if same_name n child.name then Some child.space else named n old)

-- a space, where it is one of the first
abbrev pub among_first : ℕ → Option SpaceId → Option SpaceId
among_first count None = None
among_first count (Some s) = if nat_lt s.0 count then Some s else None

-- the families have those of the first spaces
pub record AreSorted (text : ModelRecord) (count : ℕ) (tops : List Child) (families : List (List Child)) : Type 0 where
  pub long : length families ≡ length text.spaces
  pub rising : (s : SpaceId) → s.0 < length text.spaces → IsRising (slice_index_or families s.0 [])
  pub has : (s : SpaceId) (n : Name) → s.0 < length text.spaces → named n (slice_index_or families s.0 []) ≡ among_first count (child_of text n s)
  pub rising_top : IsRising tops
  pub has_top : (n : Name) → named n tops ≡ among_first count (id_of text (n ∷ []))

-- the children before a place are those that stand before a name
pub record IsPlace (children : List Child) (name : Name) (place : ℕ) : Type 0 where
  pub within : place ≤ length children
  pub before : (c : Child) → Has (take place children) c → Precedes c.name name
  pub behind : (c : Child) → Has (drop place children) c → Precedes c.name name → ⊥

-- as far as a search for it has come
pub record IsBetween (children : List Child) (name : Name) (low high : ℕ) : Type 0 where
  pub ordered : low ≤ high
  pub within : high ≤ length children
  pub before : (c : Child) → Has (take low children) c → Precedes c.name name
  pub behind : (c : Child) → Has (drop high children) c → Precedes c.name name → ⊥
