-- Answers of a node that needs no run, and the evaluations that answers make.
use Rattle.std.proofs.Common.{◌≡◌, ◌∙◌, ℕ, ◌-◌, Result, Ok, refl, sym, ap, subst, arith}
use Rattle.mx_value.specs.declared.value.Value.{Value}
use Rattle.mx_value.specs.declared.node.Node.{Node}
use Rattle.mx_value.specs.declared.refusal.EvalRefusal.{EvalRefusal}
use Rattle.mx_edit.specs.declared.reply.Reply.{Reply}
use Rattle.mx_memo.specs.Memos.{Memory}
use Rattle.mx_model.specs.Records.{ModelRecord}
use Rattle.mx_model.specs.Keys.{key_result}
use Rattle.mx_answers.specs.Answers.{Answer}
use Rattle.mx_suspended.proofs.Steps.{answering_held, answering_input}
use Rattle.mx_state.specs.Evaluations.{Evaluates, IsAsked, AreRecorded}
use Rattle.mx_state.specs.Model.{model_of}
use Rattle.mx_state.proofs.Bound.{inputs_end}
use Rattle.mx_state.proofs.States.{evaluates_as}
use Rattle.mx_memo_laws.specs.Entries.{IsKept, entries_of, entry_of}
use Rattle.mx_memo_laws.proofs.Nodes.{entered}
use Rattle.mx_frames.specs.Known.{GivesHeld, RepliesInput}
use Rattle.mx_machine.specs.Closing.{HasClosed}
use Rattle.mx_machine.specs.Settings.{evaluation_of}
use Rattle.mx_machine.specs.States.{state_of}

module _ (text : ModelRecord) (m : Memory) (kept : IsKept (model_of text) m) (limit : ℕ) where
  module _ (n : Node) (now : ℕ) where
    -- no run has begun
    closed_at_once : (v : Value) → Answer (model_of text) (evaluation_of n m limit) (Ok v) (entries_of m.held) 0 → HasClosed (model_of text) (evaluation_of n m limit) m (now - now) (Ok v)
    closed_at_once v a = record {
      right = subst (λ (k : ℕ). Answer (model_of text) (evaluation_of n m limit) (Ok v) (entries_of m.held) k) (let e : 0 ≡ now - now = omega arith in e) a;
      kept = kept;
    }

    pub closed_input : (r : Reply) (v : Value) → RepliesInput (model_of text) n r → v ≡ r.value → HasClosed (model_of text) (evaluation_of n m limit) m (now - now) (Ok v)
    closed_input r v i e =
        closed_at_once v
        (subst (λ (x : Value). Answer (model_of text) (evaluation_of n m limit) (Ok x) (entries_of m.held) 0) (sym (e ∙ ap (λ (x : Reply). x.value) i.is))
        (answering_input (model_of text) (evaluation_of n m limit) i.value (inputs_end (key_result text)) kept.memo i.input.is i.input.value))

    pub closed_held : (id : ℕ) (r : Reply) (v : Value) → GivesHeld m.held id n r → v ≡ r.value → HasClosed (model_of text) (evaluation_of n m limit) m (now - now) (Ok v)
    closed_held id r v g e =
        closed_at_once v
        (subst (λ (x : Value). Answer (model_of text) (evaluation_of n m limit) (Ok x) (entries_of m.held) 0) (sym (e ∙ ap (λ (x : Reply). x.value) (sym g.reply_is)))
        (answering_held (model_of text) (evaluation_of n m limit) (entry_of m.held g.entry) (inputs_end (key_result text)) kept.memo (entered m.held g.entry g.among) g.node_is))

  recorded_by : AreRecorded (model_of text) (entries_of m.held)
  recorded_by = record { records = kept.memo.records; order = kept.memo.order }

-- the answer of the node that is asked makes an evaluation
pub evaluates_closed : (text : ModelRecord) (old new : Memory) (limit : ℕ) (n b : Node) (a : Result Value EvalRefusal) (ticks : ℕ) → IsAsked (model_of text) n b → HasClosed (model_of text) (evaluation_of b old limit) new ticks a → Evaluates (state_of text old limit) n a ticks (state_of text new limit)
evaluates_closed text old new limit n b a ticks asked closed =
    evaluates_as (state_of text old limit) (state_of text new limit) n b a ticks asked closed.right (recorded_by text new closed.kept limit) refl refl
