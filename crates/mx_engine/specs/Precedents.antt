-- The reads of a node that has a value.
use Rattle.std.specs.Prelude.{◌≡◌, ◌⊎◌, List, []}
use Rattle.mx_value.specs.declared.node.Node.{Node}
use Rattle.mx_value.specs.declared.read.Read.{Read}
use Rattle.mx_edit.specs.Entry.{Entry}
use Rattle.mx_runs.specs.Lists.{Has}
use Rattle.mx_runs.specs.Chains.{HasValue}
use Rattle.mx_answers.specs.Held.{nodes_of, IsKnown}
use Rattle.mx_answers.specs.Records.{HasReads}
use Rattle.mx_memo.specs.Memos.{Memory}
use Rattle.mx_memo_laws.specs.Entries.{entries_of}
use Rattle.mx_model.specs.Records.{ModelRecord}
use Rattle.mx_state.specs.Model.{model_of}
use Rattle.mx_state.specs.Evaluations.{IsAsked}

-- these are the reads of the node that is asked for n, where it has a value and is held or an input
abbrev pub AreReadBy : ModelRecord → Memory → Node → List Read → Type 0
AreReadBy text memory n reads = (b : Node) → IsAsked (model_of text) n b → HasValue (model_of text) b → IsKnown (model_of text) (nodes_of (entries_of memory.held)) b → HasReads (model_of text) b reads

-- these are the reads of the entry of a node
pub record AreEntered (held : List Entry) (n : Node) (reads : List Read) : Type 0 where
  pub entry : Entry
  pub among : Has held entry
  pub node_is : entry.node ≡ n
  pub reads_are : entry.reads ≡ reads

-- the reads that are held of a node, and none where it is not held
abbrev pub AreHeldReads : List Entry → Node → List Read → Type 0
AreHeldReads held n reads = AreEntered held n reads ⊎ ((Has (nodes_of held) n → ⊥) × (reads ≡ []))
