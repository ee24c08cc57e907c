-- How it is recorded which held nodes a run asked.
use Rattle.std.specs.Prelude.{◌≡◌, ◌==◌, List, [], map, nat_eq}
use Rattle.indexmap.specs.IndexSet.{insert_all}
use Rattle.mx_graph.specs.declared.ids.NodeId.{NodeId}
use Rattle.mx_vertices.specs.Reading.{id_at}
use Rattle.mx_read_set.specs.Seen.{added}

-- with one more id, unless it is there
abbrev pub with_ask : NodeId → List NodeId → List NodeId
with_ask id ids = added (λ a b. a.at == b.at) ids id

-- each is there once
abbrev pub AreOnce : List NodeId → Type 0
AreOnce ids = insert_all nat_eq [] (map id_at ids) ≡ map id_at ids
