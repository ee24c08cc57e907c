-- Nodes that are gathered, each once, and their texts.
use Rattle.std.specs.Prelude.{◌≡◌, List, [], ◌∷◌, map}
use Rattle.indexmap.specs.IndexSet.{insert_key}
use Rattle.mx_value.specs.Equality.{node_eq}
use Rattle.mx_value.specs.declared.node.Node.{Node}
use Rattle.mx_print.specs.Values.{node_text}
use Rattle.mx_graph.specs.declared.ids.NodeId.{NodeId}
use Rattle.mx_vertices.specs.Kept.{Kept}
use Rattle.mx_vertices.specs.Reading.{id_at}
use Rattle.mx_memo_laws.specs.Entries.{nodes_under}
use Rattle.mx_engine.specs.declared.gathering.Row.{Row}

-- more nodes behind those that were seen, without those that were
abbrev pub gathered_on : List Node → List Node → List Node
gathered_on seen [] = seen
gathered_on seen (n ∷ more) = gathered_on (insert_key node_eq seen n) more

-- these nodes, each once, in order of first occurrence
abbrev pub gathered : List Node → List Node
gathered nodes = gathered_on [] nodes

-- these are the nodes that are held under the ids, each once
abbrev pub AreGathered : List Kept → List NodeId → List Node → Type 0
AreGathered held ids nodes = nodes ≡ gathered (nodes_under held (map id_at ids))

-- a node with its text
abbrev pub row_of : Node → Row
row_of n = record { text = node_text n; node = n }
