-- What is marked for an edit.
use Rattle.std.specs.Prelude.{◌≡◌, ◌⊎◌, ℕ, ◌<◌, ◌≤◌, List, Option, Some, None, Bool, true, IsSome}
use Rattle.std.specs.Ordering.{nat_cmp}
use Rattle.std.specs.FinMap as map
use Rattle.mx_graph.specs.declared.ids.NodeId.{NodeId}
use Rattle.mx_graph.specs.Relation.{Entry, Reaches, by_read, first_in}
use Rattle.mx_edit.specs.declared.key.Key.{Key}
use Rattle.mx_vertices.specs.declared.slot.Body.{Body}
use Rattle.mx_vertices.specs.declared.slot.Held.{Held}
use Rattle.mx_vertices.specs.declared.slot.Slot.{Slot}
use Rattle.mx_vertices.specs.declared.slot.Watched.{Watched}
use Rattle.mx_vertices.specs.declared.slot.Slot.TheVariants.{Node, Watch}
use Rattle.mx_edit.specs.declared.key.Key.TheVariants.{Input}
use Rattle.mx_value.specs.declared.node.Node.{Node as Asked}
use Rattle.mx_vertices.specs.Places.{slot_at, at, Has}
use Rattle.mx_vertices.specs.Inputs.{is_static}
use Rattle.mx_vertices.specs.Found.{IsNodeAt}

-- the vertex is a key that is changed
pub record IsChangedKey (slots : List Slot) (changed : Key → Bool) (q : ℕ) : Type 0 where
  pub watched : Watched
  pub slot : slot_at slots q ≡ Watch watched
  pub tells : changed watched.key ≡ true

-- this vertex is a changed key, and q reaches it
abbrev pub IsMarkedBy : List Slot → (Key → Bool) → List Entry → Option NodeId → ℕ → Type 0
IsMarkedBy slots changed edges None q = ⊥
IsMarkedBy slots changed edges (Some id) q = IsChangedKey slots changed id.at × Reaches edges id.at q

-- q reaches a changed key among the first n
pub record IsMarkedFrom (slots : List Slot) (changed : Key → Bool) (keys : List (Option NodeId)) (edges : List Entry) (n q : ℕ) : Type 0 where
  pub place : ℕ
  pub below : place < n
  pub by : IsMarkedBy slots changed edges (at keys place) q

-- q reaches this node
abbrev pub DoesReach : List Entry → Option NodeId → ℕ → Type 0
DoesReach edges None q = ⊥
DoesReach edges (Some id) q = Reaches edges id.at q

-- q reaches one that stands at a place of these, below the second
pub record IsReaching (nodes : List (Option NodeId)) (edges : List Entry) (from to q : ℕ) : Type 0 where
  pub place : ℕ
  pub above : from ≤ place
  pub below : place < to
  pub by : DoesReach edges (at nodes place) q

-- the vertex is a held node that is to go
pub record IsGoing (slots : List Slot) (goes : Body → Bool) (q : ℕ) : Type 0 where
  pub held : Held
  pub slot : slot_at slots q ≡ Node held
  pub tells : goes held.body ≡ true

-- this vertex is a held node that is to go, and q reaches it
abbrev pub DoesGo : List Slot → (Body → Bool) → List Entry → Option NodeId → ℕ → Type 0
DoesGo slots goes edges None q = ⊥
DoesGo slots goes edges (Some id) q = IsGoing slots goes id.at × Reaches edges id.at q

-- q reaches one that is to go among the first n
pub record IsGoingFrom (slots : List Slot) (goes : Body → Bool) (list : List (Option NodeId)) (edges : List Entry) (n q : ℕ) : Type 0 where
  pub place : ℕ
  pub below : place < n
  pub by : DoesGo slots goes edges (at list place) q

-- this vertex is read by none, and q reaches it
abbrev pub IsUnreadBy : List Entry → Option NodeId → ℕ → Type 0
IsUnreadBy edges None q = ⊥
IsUnreadBy edges (Some id) q = (first_in (by_read id) edges ≡ None) × Reaches edges id.at q

-- q reaches one that none reads, among the first n
pub record IsUnreadFrom (keys : List (Option NodeId)) (edges : List Entry) (n q : ℕ) : Type 0 where
  pub place : ℕ
  pub below : place < n
  pub by : IsUnreadBy edges (at keys place) q

-- the vertex is a held static node whose own input is changed
pub record IsInputChanged (slots : List Slot) (changed : Key → Bool) (q : ℕ) : Type 0 where
  pub held : Held
  pub slot : slot_at slots q ≡ Node held
  pub own : is_static held.body.node ≡ true
  pub tells : changed (Input held.body.node) ≡ true

-- what a change begins at: a changed key, or a held static node whose own input is changed
abbrev pub IsChangedStart : List Slot → (Key → Bool) → ℕ → Type 0
IsChangedStart slots changed q = IsChangedKey slots changed q ⊎ IsInputChanged slots changed q

-- q reaches this node, which is held and static
pub record IsInputBy (slots : List Slot) (edges : List Entry) (n : Asked) (q : ℕ) : Type 0 where
  pub vertex : ℕ
  pub is : IsNodeAt slots vertex n
  pub own : is_static n ≡ true
  pub reaches : Reaches edges vertex q

-- q reaches one of these
pub record IsInputFrom (slots : List Slot) (edges : List Entry) (nodes : List Asked) (q : ℕ) : Type 0 where
  pub node : Asked
  pub among : Has nodes node
  pub by : IsInputBy slots edges node q

-- each held node is in the graph
abbrev pub AreNodesLive : map.FinMap nat_cmp Bool → List Slot → Type 0
AreNodesLive graph slots = (q : ℕ) (h : Held) → slot_at slots q ≡ Node h → IsSome (map.get graph q)
