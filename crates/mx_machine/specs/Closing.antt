-- How an evaluation is closed.
use Rattle.std.specs.Prelude.{◌≡◌, ℕ, Result}
use Rattle.mx_value.specs.declared.value.Value.{Value}
use Rattle.mx_value.specs.declared.refusal.EvalRefusal.{EvalRefusal}
use Rattle.mx_memo.specs.Memos.{Memory}
use Rattle.mx_runs.specs.Runs.{Model}
use Rattle.mx_answers.specs.Answers.{Evaluation, Answer}
use Rattle.mx_suspended.specs.Ended.{HasEnded}
use Rattle.mx_memo_laws.specs.Entries.{IsKept, entries_of}
use Rattle.mx_memo_laws.specs.Laws.{HasGrown}

-- An evaluation began with this memo and has come to an answer. All that it computed is held now.
pub record IsOver (model : Model) (start now : Memory) (ev : Evaluation) (ticks : ℕ) (answer : Result Value EvalRefusal) : Type 0 where
  pub kept : IsKept model start
  pub held : ev.held ≡ entries_of start.held
  pub grown : HasGrown start now
  pub ended : HasEnded model ev (entries_of now.held) ticks answer

-- the answer is right with what is held now, which is kept
pub record HasClosed (model : Model) (ev : Evaluation) (now : Memory) (ticks : ℕ) (answer : Result Value EvalRefusal) : Type 0 where
  pub right : Answer model ev answer (entries_of now.held) ticks
  pub kept : IsKept model now
