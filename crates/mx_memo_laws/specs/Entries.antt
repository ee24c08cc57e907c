-- The held nodes of a memo as entries, which name the nodes that they ask where the memo has ids.
use Rattle.std.specs.Prelude.{◌≡◌, ℕ, ◌==◌, if◌then◌else◌, List, [], ◌∷◌, ◌++◌, map}
use Rattle.mx_graph.specs.declared.ids.NodeId.{NodeId}
use Rattle.mx_value.specs.declared.node.Node.{Node}
use Rattle.mx_edit.specs.declared.key.Key.{Key}
use Rattle.mx_edit.specs.declared.key.Key.TheVariants.{Input}
use Rattle.mx_edit.specs.Entry.{Entry}
use Rattle.mx_vertices.specs.declared.slot.Body.{Body}
use Rattle.mx_vertices.specs.Inputs.{is_static}
use Rattle.mx_vertices.specs.Kept.{Kept, no_body}
use Rattle.mx_vertices.specs.Reading.{keys_in, asks_in, id_at}
use Rattle.mx_memo.specs.Memos.{Memory}
use Rattle.mx_memo.specs.Order.{IsInOrder}
use Rattle.mx_memo.specs.Restoring.{AskBefore}
use Rattle.mx_runs.specs.Runs.{Model}
use Rattle.mx_answers.specs.Records.{IsRightMemo}

-- the node that is held under an id
abbrev pub node_under : List Kept → ℕ → Node
node_under [] id = no_body.node
node_under (r ∷ held) id = if r.id == id then r.body.node else node_under held id

-- the nodes that are held under these
abbrev pub nodes_under : List Kept → List ℕ → List Node
nodes_under held ids = map (node_under held) ids

-- a held node with what it gives, the keys that its run looked up, the nodes that it asked, and what it read
abbrev pub entry_of : List Kept → Kept → Entry
entry_of held r = record {
  node = r.body.node;
  reply = r.body.reply;
  keys = keys_in r.sources;
  asks = nodes_under held (asks_in r.sources);
  reads = r.body.reads;
}

-- what is held, in order of holding
abbrev pub entries_of : List Kept → List Entry
entries_of held = map (entry_of held) held

-- ids are apart, stamps rise to at most the last, and each node asks only what stands before it
pub record IsOrdered (m : Memory) : Type 0 where
  pub stands : IsInOrder m
  pub asks : AskBefore [] m.held

-- the memo is right for the model, and nothing is in flight: so it is between evaluations
pub record IsKept (model : Model) (m : Memory) : Type 0 where
  pub memo : IsRightMemo model (entries_of m.held)
  pub ordered : IsOrdered m
  pub idle : m.begun ≡ []

-- the key that a static node looks up before all else
abbrev pub own_keys : Node → List Key
own_keys n = if is_static n then Input n ∷ [] else []

-- the entry of a node that is held with these keys, beside its own, and these asks
abbrev pub entry_held : List Kept → Body → List Key → List NodeId → Entry
entry_held held body keys asks = record {
  node = body.node;
  reply = body.reply;
  keys = own_keys body.node ++ keys;
  asks = nodes_under held (map id_at asks);
  reads = body.reads;
}
