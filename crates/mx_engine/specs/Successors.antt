-- The successors of a node: the held nodes whose runs asked it.
use Rattle.std.specs.Prelude.{◌≡◌, ◌↔◌, Bool, true, false, List, map}
use Rattle.mx_value.specs.declared.node.Node.{Node}
use Rattle.mx_edit.specs.Entry.{Entry}
use Rattle.mx_edit.specs.declared.key.Key.TheVariants.{Input}
use Rattle.mx_graph.specs.declared.ids.NodeId.{NodeId}
use Rattle.mx_vertices.specs.Reading.{id_at}
use Rattle.mx_memo.specs.Memos.{Memory, AreHeld}
use Rattle.mx_runs.specs.Lists.{Has, Distinct}
use Rattle.mx_model.specs.Records.{ModelRecord}
use Rattle.mx_runs.specs.Runs.{Model}
use Rattle.mx_runs.specs.Inputs.{is_input}
use Rattle.mx_memo_laws.specs.Entries.{entries_of, nodes_under}
use Rattle.mx_state.specs.Model.{model_of}
use Rattle.mx_state.specs.State.{State}
pub use Rattle.mx_engine.specs.ByText.{AreByText}

-- an input that was asked is recorded as its key, and any other node as an ask
abbrev pub IsRecordedAs : Bool → Node → Entry → Type 0
IsRecordedAs true n e = Has e.keys (Input n)
IsRecordedAs false n e = Has e.asks n

-- it is recorded that the run of the entry's node asked n
abbrev pub DidAsk : Model → Node → Entry → Type 0
DidAsk model n e = IsRecordedAs (is_input model n) n e

-- x is held, and its run asked n
pub record IsSuccessor (model : Model) (held : List Entry) (n x : Node) : Type 0 where
  pub entry : Entry
  pub among : Has held entry
  pub node_is : entry.node ≡ x
  pub asked : DidAsk model n entry

-- these are exactly the successors of n, each once, by the bytes of their texts
pub record AreSuccessors (s : State) (n : Node) (nodes : List Node) : Type 0 where
  pub once : Distinct nodes
  pub by_text : AreByText nodes
  pub exactly : (x : Node) → Has nodes x ↔ IsSuccessor (model_of s.text) s.held n x

-- these are held, and are the successors of n: one may stand more than once
pub record AreAskers (text : ModelRecord) (m : Memory) (n : Node) (ids : List NodeId) : Type 0 where
  pub held : AreHeld m.held ids
  pub exactly : (x : Node) → Has (nodes_under m.held (map id_at ids)) x ↔ IsSuccessor (model_of text) (entries_of m.held) n x
