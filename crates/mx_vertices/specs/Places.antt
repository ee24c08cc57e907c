-- Where the vertices of the graph stand.
use Rattle.std.specs.Prelude.{◌≡◌, ◌⊎◌, ℕ, ◌+◌, ◌<◌, List, [], ◌∷◌, Option, Some, None, IsSome, Bool, if◌then◌else◌, is_some, length, slice_index_or, slice_set}
use Rattle.std.specs.Ordering.{nat_cmp}
use Rattle.std.specs.FinMap as map
use Rattle.mx_graph.specs.declared.ids.NodeId.{NodeId}
use Rattle.mx_vertices.specs.declared.slot.Slot.{Slot}
use Rattle.mx_vertices.specs.declared.slot.Slot.TheVariants.{Free, Node, Watch}

abbrev pub slot_at : List Slot → ℕ → Slot
slot_at slots q = slice_index_or slots q Free

-- the place of a held node in the order, and that of a key among the keys
abbrev pub node_place : Slot → Option ℕ
node_place Free = None
node_place (Node h) = Some h.place
node_place (Watch w) = None

abbrev pub key_place : Slot → Option ℕ
key_place Free = None
key_place (Node h) = None
key_place (Watch w) = Some w.place

-- the list without what stands at a place
abbrev pub cleared : Option ℕ → List (Option NodeId) → List (Option NodeId)
cleared None list = list
cleared (Some p) list = slice_set list p None

abbrev pub CanClear : Option ℕ → List (Option NodeId) → Type 0
CanClear None list = Unit {0}
CanClear (Some p) list = p < length list

abbrev pub at : List (Option NodeId) → ℕ → Option NodeId
at list p = slice_index_or list p None

-- a vertex of this id, at this place of the list
pub record StandsAt (list : List (Option NodeId)) (q p : ℕ) : Type 0 where
  pub id : NodeId
  pub is : id.at ≡ q
  pub there : at list p ≡ Some id

-- the list has the vertices of one kind, each at the place that its slot tells
pub record IsPlacedIn (place : Slot → Option ℕ) (nodes : map.FinMap nat_cmp Bool) (slots : List Slot) (list : List (Option NodeId)) : Type 0 where
  pub told : (p : ℕ) (id : NodeId) → at list p ≡ Some id → (place (slot_at slots id.at) ≡ Some p) × IsSome (map.get nodes id.at)
  pub stands : (q p : ℕ) → place (slot_at slots q) ≡ Some p → StandsAt list q p

-- each vertex has its slot and its place
pub record IsPlaced (nodes : map.FinMap nat_cmp Bool) (slots : List Slot) (order keys : List (Option NodeId)) : Type 0 where
  pub live : (q : ℕ) → IsSome (map.get nodes q) → slot_at slots q ≡ Free → ⊥
  pub nodes_in : IsPlacedIn node_place nodes slots order
  pub keys_in : IsPlacedIn key_place nodes slots keys

-- the vertex at another place
abbrev pub with_place : ℕ → Slot → Slot
with_place p Free = Free
with_place p (Node h) = Node (record h { place = p })
with_place p (Watch w) = Watch (record w { place = p })

-- the same vertex, maybe at another place
abbrev pub IsAlike : Slot → Slot → Type 0
IsAlike s t = (p : ℕ) → with_place p t ≡ with_place p s

-- x is among xs
abbrev pub Has : {X : Type 0} → List X → X → Type 0
Has [] x = ⊥
Has (y ∷ ys) x = (y ≡ x) ⊎ Has ys x

-- no vertex stands twice
abbrev pub StandOnce : List (Option NodeId) → Type 0
StandOnce [] = Unit {0}
StandOnce (None ∷ list) = StandOnce list
StandOnce (Some id ∷ list) = ((j : NodeId) → Has list (Some j) → id.at ≡ j.at → ⊥) × StandOnce list

-- each vertex of the list is told its place in it, and all else is as it was
pub record IsSettled (slots slots2 : List Slot) (list : List (Option NodeId)) : Type 0 where
  pub alike : (q : ℕ) → IsAlike (slot_at slots q) (slot_at slots2 q)
  pub told : (p : ℕ) (id : NodeId) → at list p ≡ Some id → slot_at slots2 id.at ≡ with_place p (slot_at slots id.at)
  pub others : (q : ℕ) → ((p : ℕ) (id : NodeId) → at list p ≡ Some id → id.at ≡ q → ⊥) → slot_at slots2 q ≡ slot_at slots q

-- what stands there, where it is a vertex of the graph
abbrev pub if_live : map.FinMap nat_cmp Bool → Option NodeId → Option NodeId
if_live nodes None = None
if_live nodes (Some id) = if is_some (map.get nodes id.at) then Some id else None

-- how many stand there
abbrev pub held_in : List (Option NodeId) → ℕ
held_in [] = 0
held_in (None ∷ list) = held_in list
held_in (Some id ∷ list) = held_in list + 1

-- what the place of a held node counts
abbrev pub counts : Option ℕ → ℕ
counts None = 0
counts (Some p) = 1
