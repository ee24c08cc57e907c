-- What is recorded of a run so far.
pub use Rattle.mx_binding.specs.Asking.{with_ask}
use Rattle.std.specs.Prelude.{◌≡◌, List, ◌++◌, map}
use Rattle.mx_value.specs.declared.node.Node.{Node}
use Rattle.mx_edit.specs.declared.key.Key.{Key}
use Rattle.mx_vertices.specs.Kept.{Kept}
use Rattle.mx_vertices.specs.Reading.{id_at}
use Rattle.mx_memo.specs.Memos.{AreHeld}
use Rattle.mx_memo_laws.specs.Entries.{nodes_under, own_keys}
use Rattle.mx_suspended.specs.Recorded.{Recorded}
use Rattle.mx_binding.specs.declared.records.Records.{Records}

-- what is recorded, with the nodes that were asked under their ids
abbrev pub recorded_in : List Kept → Records → Recorded
recorded_in held r = record { keys = r.seen.keys; asks = nodes_under held (map id_at r.asks); reads = r.seen.reads }

-- the key of the node's own input is the first, where the node is static
pub record HasOwnKey (n : Node) (keys : List Key) : Type 0 where
  pub more : List Key
  pub is : keys ≡ own_keys n ++ more

-- of the run of the node it is recorded that it looked its own input up first, where it has one, and that it asked held
-- nodes
pub record AreFit (held : List Kept) (n : Node) (r : Records) : Type 0 where
  pub asks : AreHeld held r.asks
  pub own : HasOwnKey n r.seen.keys
