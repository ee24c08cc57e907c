-- A bound form by what is held, whatever the limit.
use Rattle.std.proofs.Common.{◌≡◌, ℕ, Option, Some, None, Result, Ok, Err, IfOk, subst}
use Rattle.mx_value.specs.declared.node.Node.{Node}
use Rattle.mx_model.specs.Records.{ModelRecord}
use Rattle.mx_memo.specs.Memos.{Memory}
use Rattle.mx_machine.specs.States.{state_of}
use Rattle.mx_state.specs.State.{State}
use Rattle.mx_state.specs.Evaluations.{HasBoundForm}

pub bound_told : {E : Type 0} (text : ModelRecord) (m : Memory) (limit : ℕ) (s : State) (n : Node) (r : Result (Option Node) E) → state_of text m limit ≡ s → IfOk r (HasBoundForm (state_of text m 1) n) → IfOk r (HasBoundForm s n)
bound_told text m limit s n (Ok (Some b)) view p = subst (λ (t : State). HasBoundForm t n (Some b)) view p
bound_told text m limit s n (Ok None) view p = subst (λ (t : State). HasBoundForm t n None) view p
bound_told text m limit s n (Err e) view p = p
