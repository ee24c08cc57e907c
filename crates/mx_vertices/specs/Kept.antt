-- What contracts see of a memo.
use Rattle.std.specs.Prelude.{◌≡◌, ℕ, ◌+◌, Bool, true, ◌==◌, if◌then◌else◌, List, [], ◌∷◌, ◌++◌, Option, Some, None}
use Rattle.std.specs.FinMap as map
use Rattle.mx_graph.specs.declared.ids.NodeId.{NodeId}
use Rattle.mx_graph.specs.Relation.{Entry, Graph, find}
use Rattle.mx_edit.specs.declared.key.Key.{Key}
use Rattle.mx_edit.specs.declared.key.Key.TheVariants.{Input}
use Rattle.mx_value.specs.declared.node.Node.{Node as Asked}
use Rattle.mx_value.specs.declared.node.Node.TheVariants.{Item}
use Rattle.mx_value.specs.declared.value.Value.TheVariants.{Nothing}
use Rattle.mx_vertices.specs.declared.slot.Body.{Body}
use Rattle.mx_vertices.specs.declared.slot.Slot.{Slot}
use Rattle.mx_vertices.specs.declared.slot.Watched.{Watched}
use Rattle.mx_vertices.specs.declared.slot.Slot.TheVariants.{Free, Node, Watch}
use Rattle.mx_vertices.specs.Inputs.{is_static}
use Rattle.mx_vertices.specs.Places.{slot_at, Has, IsPlaced}

-- what a run took from elsewhere: a key that it looked up, or a held node that it asked, by its id
pub data Source : Type 0 where
  looked : Key → Source
  asked : ℕ → Source

-- a held node: its stamp, its id, what it is and gives, and what its run took, in order
pub record Kept : Type 0 where
  pub stamp : ℕ
  pub id : ℕ
  pub body : Body
  pub sources : List Source

-- the key of its own input, which a static node looks up before all else
unfoldable pub own_key : Asked → List Source
own_key n = if is_static n then looked (Input n) ∷ [] else []

-- what is in no slot
abbrev pub no_body : Body
no_body = record { node = Item [] []; reply = record { value = Nothing; namespace = None }; reads = [] }

abbrev pub body_of : Slot → Body
body_of Free = no_body
body_of (Node h) = h.body
body_of (Watch w) = no_body

abbrev pub source_in : ℕ → Slot → Source
source_in q Free = asked q
source_in q (Node h) = asked q
source_in q (Watch w) = looked w.key

-- what the vertex q reads
abbrev pub sources_at : List Slot → ℕ → List Entry → List Source
sources_at slots q [] = []
sources_at slots q (e ∷ es) = if e.reader.at == q then source_in e.read.at (slot_at slots e.read.at) ∷ sources_at slots q es else sources_at slots q es

abbrev pub kept : List Entry → List Slot → ℕ → NodeId → Kept
kept edges slots stamp id = record {
  stamp = stamp;
  id = id.at;
  body = body_of (slot_at slots id.at);
  sources = own_key (body_of (slot_at slots id.at)).node ++ sources_at slots id.at edges;
}

-- the held nodes that stand from a place on
abbrev pub entries : List Entry → List Slot → ℕ → List (Option NodeId) → List Kept
entries edges slots p [] = []
entries edges slots p (None ∷ list) = entries edges slots (p + 1) list
entries edges slots p (Some id ∷ list) = kept edges slots (p + 1) id ∷ entries edges slots (p + 1) list

abbrev pub IsNode : Slot → Type 0
IsNode Free = ⊥
IsNode (Node h) = Unit {0}
IsNode (Watch w) = ⊥

-- each vertex has its place, none is marked, keys read nothing, and no key stands twice
pub record IsWhole (graph : Graph) (slots : List Slot) (order keys : List (Option NodeId)) : Type 0 where
  pub placed : IsPlaced graph.nodes slots order keys
  pub unmarked : (q : ℕ) → map.get graph.nodes q ≡ Some true → ⊥
  pub reads : (k : ℕ) (e : Entry) → find k graph.edges ≡ Some e → IsNode (slot_at slots e.reader.at)
  pub once : (q r : ℕ) (v w : Watched) → slot_at slots q ≡ Watch v → slot_at slots r ≡ Watch w → v.key ≡ w.key → q ≡ r

-- it looked up a key that is changed
pub record HasChanged (changed : Key → Bool) (r : Kept) : Type 0 where
  pub key : Key
  pub among : Has r.sources (looked key)
  pub tells : changed key ≡ true

-- it is to go
abbrev pub IsToGo : (Body → Bool) → Kept → Type 0
IsToGo goes r = goes r.body ≡ true

-- the held node of this id passes, or one that it reaches does
pub data IsTouched (passes : Kept → Type 0) (held : List Kept) : ℕ → Type 0 where
  Here : (r : Kept) → Has held r → passes r → IsTouched passes held r.id
  ByAsk : (r : Kept) → Has held r → (m : ℕ) → Has r.sources (asked m) → IsTouched passes held m → IsTouched passes held r.id

-- the second is the first, in order, without those that are out
pub data Sifts (Out : ℕ → Type 0) : List Kept → List Kept → Type 0 where
  Done : Sifts Out [] []
  Keeps : (r : Kept) (rs ks : List Kept) → (Out r.id → ⊥) → Sifts Out rs ks → Sifts Out (r ∷ rs) (r ∷ ks)
  Drops : (r : Kept) (rs ks : List Kept) → Out r.id → Sifts Out rs ks → Sifts Out (r ∷ rs) ks

-- a node of this id is held
pub record IsHeld (held : List Kept) (id : ℕ) : Type 0 where
  pub entry : Kept
  pub among : Has held entry
  pub is : entry.id ≡ id

-- the node of this id has read one more
abbrev pub with_read : ℕ → Source → Kept → Kept
with_read id r k = if k.id == id then record k { sources = k.sources ++ r ∷ [] } else k

-- the vertex is this key
pub record IsKeyAt (slots : List Slot) (q : ℕ) (key : Key) : Type 0 where
  pub watched : Watched
  pub slot : slot_at slots q ≡ Watch watched
  pub is : watched.key ≡ key
