-- What the run of a held node looked up and asked, apart.
use Rattle.std.specs.Prelude.{◌≡◌, ◌⊎◌, ℕ, true, List, [], ◌∷◌, filter, map}
use Rattle.mx_graph.specs.declared.ids.NodeId.{NodeId}
use Rattle.mx_graph.specs.Relation.{Entry, by_reader, by_read}
use Rattle.mx_edit.specs.declared.key.Key.{Key}
use Rattle.mx_edit.specs.declared.key.Key.TheVariants.{Input}
use Rattle.mx_vertices.specs.declared.slot.Held.{Held}
use Rattle.mx_vertices.specs.declared.slot.Slot.{Slot}
use Rattle.mx_vertices.specs.declared.slot.Slot.TheVariants.{Node}
use Rattle.mx_vertices.specs.Inputs.{is_static}
use Rattle.mx_vertices.specs.Places.{slot_at, Has}
use Rattle.mx_vertices.specs.Kept.{Kept, Source, looked, asked, source_in, IsKeyAt}

-- the keys among these, in order
abbrev pub keys_in : List Source → List Key
keys_in [] = []
keys_in (looked k ∷ rs) = k ∷ keys_in rs
keys_in (asked m ∷ rs) = keys_in rs

-- the ids of the nodes that are asked among these, in order
abbrev pub asks_in : List Source → List ℕ
asks_in [] = []
asks_in (looked k ∷ rs) = asks_in rs
asks_in (asked m ∷ rs) = m ∷ asks_in rs

abbrev pub id_at : NodeId → ℕ
id_at id = id.at

-- these are the keys that the run of the held node looked up
pub record LookedUp (held : List Kept) (id : ℕ) (keys : List Key) : Type 0 where
  pub entry : Kept
  pub among : Has held entry
  pub id_is : entry.id ≡ id
  pub are : keys ≡ keys_in entry.sources

-- these are the held nodes that the run of the held node asked
pub record Asked (held : List Kept) (id : ℕ) (ids : List NodeId) : Type 0 where
  pub entry : Kept
  pub among : Has held entry
  pub id_is : entry.id ≡ id
  pub are : map id_at ids ≡ asks_in entry.sources

-- the vertices that a vertex reads, in order
abbrev pub entry_read : Entry → NodeId
entry_read e = e.read

abbrev pub reads_in : NodeId → List Entry → List NodeId
reads_in id edges = map entry_read (filter (by_reader id) edges)

-- the vertex is a held static node whose own input the key is
pub record IsOwnKeyAt (slots : List Slot) (q : ℕ) (key : Key) : Type 0 where
  pub held : Held
  pub slot : slot_at slots q ≡ Node held
  pub own : is_static held.body.node ≡ true
  pub is : Input held.body.node ≡ key

-- an edge of the vertex q that is read so
pub record ReadsBy (slots : List Slot) (edges : List Entry) (q : ℕ) (r : Source) : Type 0 where
  pub edge : Entry
  pub among : Has edges edge
  pub reader : edge.reader.at ≡ q
  pub is : source_in edge.read.at (slot_at slots edge.read.at) ≡ r

-- the vertices that read a vertex, in order
abbrev pub entry_reader : Entry → NodeId
entry_reader e = e.reader

abbrev pub readers_in : NodeId → List Entry → List NodeId
readers_in id edges = map entry_reader (filter (by_read id) edges)

-- the vertices that read the vertex of a key, where there is one
abbrev pub AreKeyReaders : List Slot → List Entry → Key → List NodeId → Type 0
AreKeyReaders slots edges key ids = ((id : NodeId) × IsKeyAt slots id.at key × (ids ≡ readers_in id edges)) ⊎ (((q : ℕ) → IsKeyAt slots q key → ⊥) × (ids ≡ []))

-- the run of the held node of this id took this from elsewhere
pub record DidTake (held : List Kept) (r : Source) (id : ℕ) : Type 0 where
  pub entry : Kept
  pub among : Has held entry
  pub id_is : entry.id ≡ id
  pub takes : Has entry.sources r

-- these are exactly the held nodes whose runs took it
abbrev pub AreTakers : List Kept → Source → List NodeId → Type 0
AreTakers held r ids = (id : ℕ) → (Has (map id_at ids) id → DidTake held r id) × (DidTake held r id → Has (map id_at ids) id)
