-- How an evaluation ends, and what its answer leaves held.
use Rattle.std.specs.Prelude.{◌≡◌, ℕ, Bool, true, false, if◌then◌else◌, List, ◌++◌, Result, Ok, Err, length, take}
use Rattle.mx_value.specs.declared.value.Value.{Value}
use Rattle.mx_value.specs.declared.refusal.EvalRefusal.{EvalRefusal}
use Rattle.mx_value.specs.declared.refusal.EvalRefusal.TheVariants as refusal
use Rattle.mx_edit.specs.Entry.{Entry}
use Rattle.mx_runs.specs.Runs.{Model}
use Rattle.mx_answers.specs.Records.{IsRightMemo}
use Rattle.mx_answers.specs.Answers.{Evaluation, Answer}

-- after a value, a fault and a ring what was computed stays held; after any other answer it does not
abbrev pub keeps : Result Value EvalRefusal → Bool
keeps (Ok v) = true
keeps (Err (refusal.Fault kind m line)) = true
keeps (Err (refusal.Ring ring)) = true
keeps (Err refusal.NoSuch) = false
keeps (Err refusal.WrongCount) = false
keeps (Err (refusal.TooDeep m)) = false
keeps (Err refusal.Full) = false
keeps (Err refusal.NoMemory) = false

-- An evaluation has come to an answer, and so much is still held: a right memo, which is what was held at the start with
-- more behind it. The answer is right where what it keeps is held then.
pub record HasEnded (model : Model) (ev : Evaluation) (held : List Entry) (ticks : ℕ) (answer : Result Value EvalRefusal) : Type 0 where
  pub memo : IsRightMemo model held
  pub more : List Entry
  pub grown : ev.held ++ more ≡ held
  pub right : Answer model ev answer (if keeps answer then held else ev.held) ticks

-- what is held after an answer, where what it does not keep is cut off
abbrev pub left_by : Result Value EvalRefusal → List Entry → List Entry → List Entry
left_by answer start held = if keeps answer then held else take (length start) held

-- the answer is right with what is left, which is a right memo
pub record IsClosed (model : Model) (ev : Evaluation) (answer : Result Value EvalRefusal) (left : List Entry) (ticks : ℕ) : Type 0 where
  pub right : Answer model ev answer left ticks
  pub memo : IsRightMemo model left
