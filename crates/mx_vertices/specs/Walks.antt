-- Walks along edges: what is still to come of each.
use Rattle.std.specs.Prelude.{◌≡◌, ℕ, ◌==◌, ◌↔◌, if◌then◌else◌, List, [], ◌∷◌, ◌++◌, Option, Some, None, filter, map}
use Rattle.mx_graph.specs.declared.ids.NodeId.{NodeId}
use Rattle.mx_graph.specs.declared.ids.EdgeId.{EdgeId}
use Rattle.mx_graph.specs.Relation.{Entry, by_read, first_in}
use Rattle.mx_edit.specs.declared.key.Key.{Key}
use Rattle.mx_vertices.specs.declared.slot.Slot.{Slot}
use Rattle.mx_vertices.specs.declared.slot.Slot.TheVariants.{Free, Node, Watch}
use Rattle.mx_vertices.specs.Places.{slot_at, Has}
use Rattle.mx_vertices.specs.Kept.{Kept, Source, looked, own_key}
use Rattle.mx_vertices.specs.Reading.{keys_in, id_at, IsOwnKeyAt, AreKeyReaders}

-- the edges of one vertex from that of an id on: `side` is the end that is the vertex
abbrev pub edges_from : (Entry → NodeId) → ℕ → List Entry → List Entry
edges_from side q [] = []
edges_from side q (e ∷ es) = if e.id.at == q then e ∷ filter (λ x. (side x).at == (side e).at) es else edges_from side q es

abbrev pub still : (Entry → NodeId) → Option EdgeId → List Entry → List Entry
still side None edges = []
still side (Some id) edges = edges_from side id.at edges

-- the vertex, where it is no key, and others
abbrev pub if_asked : NodeId → Slot → List NodeId → List NodeId
if_asked id Free ids = id ∷ ids
if_asked id (Node h) ids = id ∷ ids
if_asked id (Watch w) ids = ids

-- those among these vertices that are no keys, in order
abbrev pub asks_among : List Slot → List NodeId → List NodeId
asks_among slots [] = []
asks_among slots (id ∷ ids) = if_asked id (slot_at slots id.at) (asks_among slots ids)

-- the key that the vertex is, where it is one that is read, and others
abbrev pub if_read : Option EdgeId → Slot → List Key → List Key
if_read None s keys = keys
if_read (Some edge) Free keys = keys
if_read (Some edge) (Node h) keys = keys
if_read (Some edge) (Watch w) keys = w.key ∷ keys

-- the keys that stand in these places and that some vertex reads, in order
abbrev pub keys_read : List Entry → List Slot → List (Option NodeId) → List Key
keys_read edges slots [] = []
keys_read edges slots (None ∷ list) = keys_read edges slots list
keys_read edges slots (Some id ∷ list) = if_read (first_in (by_read id) edges) (slot_at slots id.at) (keys_read edges slots list)

-- the vertices that read the vertex of a key, and then the held static node whose own input the key is
pub record AreAllReaders (slots : List Slot) (edges : List Entry) (key : Key) (ids : List NodeId) : Type 0 where
  pub readers : List NodeId
  pub own : List NodeId
  pub readers_are : AreKeyReaders slots edges key readers
  pub own_is : (q : ℕ) → IsOwnKeyAt slots q key ↔ Has (map id_at own) q
  pub all : ids ≡ readers ++ own

-- the keys that a held node was held with: those that its run looked up, but for that of its own input, which a static node looks
-- up first
pub record AreKeysOf (held : List Kept) (id : ℕ) (keys : List Key) : Type 0 where
  pub entry : Kept
  pub among : Has held entry
  pub id_is : entry.id ≡ id
  pub are : keys_in entry.sources ≡ keys_in (own_key entry.body.node) ++ keys

-- a held node was held with the key
pub record IsHeldWithKey (held : List Kept) (key : Key) : Type 0 where
  pub entry : Kept
  pub among : Has held entry
  pub sources : List Source
  pub are : entry.sources ≡ own_key entry.body.node ++ sources
  pub has : Has sources (looked key)

-- each key once
abbrev pub StandApart : List Key → Type 0
StandApart [] = Unit {0}
StandApart (k ∷ ks) = (Has ks k → ⊥) × StandApart ks

-- these are exactly the keys that held nodes were held with, each once
pub record AreHeldKeys (held : List Kept) (keys : List Key) : Type 0 where
  pub each : (key : Key) → Has keys key ↔ IsHeldWithKey held key
  pub once : StandApart keys
