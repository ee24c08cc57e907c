-- A node that is held with all that its run took from elsewhere.
use Rattle.std.specs.Prelude.{◌≡◌, ℕ, ◌==◌, if◌then◌else◌, List, [], ◌∷◌, ◌++◌, map}
use Rattle.mx_graph.specs.declared.ids.NodeId.{NodeId}
use Rattle.mx_edit.specs.declared.key.Key.{Key}
use Rattle.mx_vertices.specs.declared.slot.Body.{Body}
use Rattle.mx_vertices.specs.declared.slot.Slot.{Slot}
use Rattle.mx_vertices.specs.declared.slot.Slot.TheVariants.{Free}
use Rattle.mx_vertices.specs.Places.{slot_at, Has}
use Rattle.mx_vertices.specs.Kept.{Kept, Source, looked, asked, own_key, source_in, IsNode}

-- what these vertices are as sources of a run
abbrev pub sources_of : List Slot → List NodeId → List Source
sources_of slots [] = []
sources_of slots (id ∷ ids) = source_in id.at (slot_at slots id.at) ∷ sources_of slots ids

-- each is a vertex
abbrev pub AreThere : List Slot → List NodeId → Type 0
AreThere slots ids = (id : NodeId) → Has ids id → slot_at slots id.at ≡ Free → ⊥

-- each is a held node
abbrev pub AreNodes : List Slot → List NodeId → Type 0
AreNodes slots ids = (id : NodeId) → Has ids id → IsNode (slot_at slots id.at)

-- the node of this id has taken more from elsewhere
abbrev pub with_sources : ℕ → List Source → Kept → Kept
with_sources id more k = if k.id == id then record k { sources = k.sources ++ more } else k

abbrev pub asked_id : NodeId → Source
asked_id id = asked id.at

-- a node as it is held: its own input, where it is static, then what else its run looked up, then what it asked
abbrev pub entry_with : ℕ → ℕ → Body → List Key → List NodeId → Kept
entry_with stamp id body keys asks = record { stamp = stamp; id = id; body = body; sources = own_key body.node ++ (map looked keys ++ map asked_id asks) }
