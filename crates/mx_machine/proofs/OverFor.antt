-- An evaluation that is over for each node that may be asked, once it is closed.
use Rattle.std.proofs.Common.{◌≡◌, ℕ, List, Result, Ok, Err, refl}
use Rattle.mx_value.specs.declared.value.Value.{Value}
use Rattle.mx_value.specs.declared.node.Node.{Node}
use Rattle.mx_value.specs.declared.refusal.EvalRefusal.{EvalRefusal}
use Rattle.mx_value.specs.declared.refusal.EvalRefusal.TheVariants as refusal
use Rattle.mx_memo.specs.Memos.{Memory}
use Rattle.mx_model.specs.Records.{ModelRecord}
use Rattle.mx_runs.specs.Runs.{Model}
use Rattle.mx_answers.specs.Answers.{Answer}
use Rattle.mx_memo_laws.specs.Entries.{entries_of, IsKept}
use Rattle.mx_state.specs.Evaluations.{Evaluates, IsAsked, KnowsAsked}
use Rattle.mx_state.specs.Model.{model_of}
use Rattle.mx_machine.specs.Behind.{TellsAsked, IsOverFor}
use Rattle.mx_machine.specs.Closing.{HasClosed, IsOver}
use Rattle.mx_machine.specs.Settings.{evaluation_of}
use Rattle.mx_machine.specs.States.{state_of}

known_then : (model : Model) (n c : Node) (old new : Memory) (limit ticks : ℕ) (a : Result Value EvalRefusal) → TellsAsked model n a → Answer model (evaluation_of c old limit) a (entries_of new.held) ticks → KnowsAsked model n a (entries_of old.held) (entries_of new.held)
known_then model n c old new limit ticks (Ok v) t answer = t tt
known_then model n c old new limit ticks (Err (refusal.Fault k m line)) t answer = t tt
known_then model n c old new limit ticks (Err (refusal.Ring ring)) t answer = t tt
known_then model n c old new limit ticks (Err refusal.NoSuch) t answer = t tt
known_then model n c old new limit ticks (Err refusal.WrongCount) t answer = t tt
known_then model n c old new limit ticks (Err (refusal.TooDeep m)) t answer = answer.1
known_then model n c old new limit ticks (Err refusal.Full) t answer = answer.1
known_then model n c old new limit ticks (Err refusal.NoMemory) t answer = answer

module _ (text : ModelRecord) (n : Node) (old mid new : Memory) (limit ticks : ℕ) (a : Result Value EvalRefusal) (over : IsOverFor (model_of text) n old mid limit ticks a)
    (close : (c : Node) → IsOver (model_of text) old mid (evaluation_of c old limit) ticks a → HasClosed (model_of text) (evaluation_of c old limit) new ticks a) where
  closed : HasClosed (model_of text) (evaluation_of over.some old limit) new ticks a
  closed = close over.some over.over

  pub kept_then : IsKept (model_of text) new
  kept_then = closed.kept

  -- it is an evaluation of the node as it is written
  pub evaluates_over : Evaluates (state_of text old limit) n a ticks (state_of text new limit)
  evaluates_over = record {
    known = known_then (model_of text) n over.some old new limit ticks a over.tells closed.right;
    answers = λ b asked. (close b (over.asked b asked)).right;
    recorded = record { records = closed.kept.memo.records; order = closed.kept.memo.order };
    text = refl;
    limit = refl;
  }
