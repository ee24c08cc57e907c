-- The bound form by the nodes that are held is that by the state.
use Rattle.std.proofs.Common.{Option, Some, None}
use Rattle.mx_value.specs.declared.node.Node.{Node}
use Rattle.mx_memo.specs.Memos.{Memory}
use Rattle.mx_model.specs.Records.{ModelRecord}
use Rattle.mx_answers.specs.Held.{nodes_of}
use Rattle.mx_memo_laws.specs.Entries.{entries_of}
use Rattle.mx_state.specs.Evaluations.{HasBoundForm}
use Rattle.mx_state.specs.Model.{model_of}
use Rattle.mx_binding.specs.Bound.{IsBoundForm}
use Rattle.mx_machine.specs.States.{state_of}

pub form_in_state : (text : ModelRecord) (m : Memory) (n : Node) (found : Option Node) → IsBoundForm (model_of text) (nodes_of (entries_of m.held)) n found → HasBoundForm (state_of text m 1) n found
form_in_state text m n (Some b) f = f
form_in_state text m n None f = f
