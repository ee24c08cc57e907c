-- The edges of a reader, one behind the other.
use Rattle.std.proofs.Common.{◌≡◌, Bool, true, false, cond, eqb, List, [], ◌∷◌, ◌++◌, map as map_list, refl, ap}
use Rattle.std.specs.Prelude.{filter}
use Rattle.mx_graph.specs.declared.ids.NodeId.{NodeId}
use Rattle.mx_graph.specs.Relation.{Entry, by_reader}
use Rattle.mx_edit.specs.declared.key.Key.{Key}
use Rattle.mx_vertices.specs.declared.slot.Slot.{Slot}
use Rattle.mx_vertices.specs.Places.{slot_at}
use Rattle.mx_edit.specs.declared.key.Key.TheVariants.{Input}
use Rattle.mx_value.specs.declared.node.Node.{Node as Asked}
use Rattle.mx_vertices.specs.Inputs.{is_static}
use Rattle.mx_vertices.specs.Kept.{Source, looked, asked, own_key, source_in, sources_at}
use Rattle.mx_vertices.specs.Held.{sources_of}
use Rattle.mx_vertices.specs.Reading.{keys_in, asks_in, entry_read, reads_in}

-- what a vertex reads, as sources
pub read_sources : (slots : List Slot) (id : NodeId) (edges : List Entry) → sources_of slots (reads_in id edges) ≡ sources_at slots id.at edges
read_sources slots id [] = refl
read_sources slots id (e ∷ edges) =
    elim (eqb e.reader.at id.at) as (λ b. sources_of slots (map_list entry_read (cond b (e ∷ filter (by_reader id) edges) (filter (by_reader id) edges))) ≡ cond b (source_in e.read.at (slot_at slots e.read.at) ∷ sources_at slots id.at edges) (sources_at slots id.at edges)) [
      | true ↦ ap (λ (rs : List Source). source_in e.read.at (slot_at slots e.read.at) ∷ rs) (read_sources slots id edges)
      | false ↦ read_sources slots id edges
    ]

pub keys_push : (xs ys : List Source) → keys_in (xs ++ ys) ≡ keys_in xs ++ keys_in ys
keys_push [] ys = refl
keys_push (looked k ∷ xs) ys = ap (λ (ks : List Key). k ∷ ks) (keys_push xs ys)
keys_push (asked m ∷ xs) ys = keys_push xs ys

-- the key of its own input is nothing that a node asked
pub asks_own : (n : Asked) (rs : List Source) → asks_in (own_key n ++ rs) ≡ asks_in rs
unfolding own_key
asks_own n rs = by (is_static n)
  where
    by : (b : Bool) → asks_in (cond b (looked (Input n) ∷ []) [] ++ rs) ≡ asks_in rs
    by true = refl
    by false = refl
