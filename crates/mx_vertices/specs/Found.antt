-- How a node is found.
use Rattle.std.specs.Prelude.{◌≡◌, ℕ, Bool, true, false, if◌then◌else◌, List, [], ◌∷◌, Option, Some, None}
use Rattle.mx_graph.specs.declared.ids.NodeId.{NodeId}
use Rattle.mx_value.specs.declared.node.Node.{Node as Asked}
use Rattle.mx_value.specs.Equality.{node_eq}
use Rattle.mx_vertices.specs.declared.slot.Body.{Body}
use Rattle.mx_vertices.specs.declared.slot.Held.{Held}
use Rattle.std.specs.HashMap.{get as look_up}
use Rattle.mx_edit.specs.declared.key.Key.{Key}
use Rattle.mx_edit.specs.Equality.{key_eq}
use Rattle.mx_vertices.specs.declared.finding.Table.{Table}
use Rattle.mx_vertices.specs.declared.slot.Watched.{Watched}
use Rattle.mx_vertices.specs.declared.slot.Slot.{Slot}
use Rattle.mx_vertices.specs.declared.standing.Standing.{Standing}
use Rattle.mx_vertices.specs.declared.standing.Standing.TheVariants.{Begun, Ended}
use Rattle.mx_vertices.specs.declared.slot.Slot.TheVariants.{Free, Node, Watch}
use Rattle.mx_vertices.specs.Places.{slot_at, at, Has}
use Rattle.mx_vertices.specs.Kept.{Kept, body_of}

-- the node that the vertex q is
abbrev pub node_at : List Slot → ℕ → Asked
node_at slots q = (body_of (slot_at slots q)).node

-- the table leads from each held node to its vertex
abbrev pub IsFound : (Asked → Option Standing) → List Slot → List (Option NodeId) → Type 0
IsFound look slots order = (p : ℕ) (id : NodeId) → at order p ≡ Some id → look (node_at slots id.at) ≡ Some (Ended id)

-- the table leads to each vertex that is a held node
abbrev pub LeadsTo : (Asked → Option Standing) → List Slot → Type 0
LeadsTo look slots = (q : ℕ) (h : Held) → slot_at slots q ≡ Node h → (id : NodeId) × (look h.body.node ≡ Some (Ended id)) × (id.at ≡ q)

-- the table leads to the vertex of each key
abbrev pub AreWatched : (Key → Option NodeId) → List Slot → Type 0
AreWatched look slots = (q : ℕ) (w : Watched) → slot_at slots q ≡ Watch w → (id : NodeId) × (look w.key ≡ Some id) × (id.at ≡ q)

-- the table without the key of a slot
abbrev pub key_without : Slot → (Key → Option NodeId) → Key → Option NodeId
key_without Free look k = look k
key_without (Node h) look k = look k
key_without (Watch w) look k = if key_eq w.key k then None else look k

-- the table without what a slot holds
abbrev pub look_without : Slot → (Asked → Option Standing) → Asked → Option Standing
look_without Free look n = look n
look_without (Node h) look n = if node_eq h.body.node n then None else look n
look_without (Watch w) look n = look n

-- the vertex q is this node
pub record IsNodeAt (slots : List Slot) (q : ℕ) (n : Asked) : Type 0 where
  pub held : Held
  pub slot : slot_at slots q ≡ Node held
  pub is : held.body.node ≡ n

-- where the table leads to a vertex for a node, it is that node
abbrev pub LeadsRight : (Asked → Option Standing) → List Slot → Type 0
LeadsRight look slots = (n : Asked) (id : NodeId) → look n ≡ Some (Ended id) → IsNodeAt slots id.at n

-- the tables lead to each held node and to each key, and for a node to no other vertex
pub record IsIndexed (table : Table) (slots : List Slot) (order : List (Option NodeId)) : Type 0 where
  pub nodes : IsFound (look_up node_eq table.nodes) slots order
  pub right : LeadsRight (look_up node_eq table.nodes) slots
  pub keys : AreWatched (look_up key_eq table.keys) slots

-- a node is held, under this id
pub record IsHeldAs (held : List Kept) (id : ℕ) (n : Asked) : Type 0 where
  pub entry : Kept
  pub among : Has held entry
  pub id_is : entry.id ≡ id
  pub node_is : entry.body.node ≡ n

-- no held node is this one
abbrev pub IsNew : List Kept → Asked → Type 0
IsNew held n = (r : Kept) → Has held r → r.body.node ≡ n → ⊥

-- the vertex q is a held node with this body
pub record IsBodyAt (slots : List Slot) (q : ℕ) (body : Body) : Type 0 where
  pub held : Held
  pub slot : slot_at slots q ≡ Node held
  pub is : held.body ≡ body

-- a node of this id is held, with this body
pub record IsHeldWith (held : List Kept) (id : ℕ) (body : Body) : Type 0 where
  pub entry : Kept
  pub among : Has held entry
  pub id_is : entry.id ≡ id
  pub body_is : entry.body ≡ body

-- the run of the node has begun
abbrev pub is_begun : Option Standing → Bool
is_begun None = false
is_begun (Some Begun) = true
is_begun (Some (Ended id)) = false

-- as far the node has come
abbrev pub HasCome : List Kept → List Asked → Asked → Standing → Type 0
HasCome held begun n Begun = Has begun n
HasCome held begun n (Ended id) = IsHeldAs held id.at n

-- the runs of exactly these have begun
abbrev pub AreBegun : (Asked → Option Standing) → List Asked → Type 0
AreBegun look begun = (n : Asked) → (is_begun (look n) ≡ true → Has begun n) × (Has begun n → is_begun (look n) ≡ true)

-- each once
abbrev pub AreDistinct : List Asked → Type 0
AreDistinct [] = Unit {0}
AreDistinct (n ∷ ns) = (Has ns n → ⊥) × AreDistinct ns
