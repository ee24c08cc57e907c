-- Laws of answers and of what is held.
use Rattle.std.specs.Prelude.{◌≡◌, ℕ, ◌+◌, ◌<◌, Bool, true, false, List, [], ◌∷◌, ◌++◌, Result, Ok, Err, length}
use Rattle.mx_value.specs.declared.node.Node.{Node}
use Rattle.mx_value.specs.declared.read.Read.{Read}
use Rattle.mx_value.specs.declared.value.Value.{Value}
use Rattle.mx_value.specs.declared.refusal.EvalRefusal.{EvalRefusal}
use Rattle.mx_value.specs.declared.refusal.EvalRefusal.TheVariants as refusal
use Rattle.mx_edit.specs.Entry.{Entry}
use Rattle.mx_edit.specs.declared.key.Key.{Key}
use Rattle.mx_edit.specs.declared.key.KeyResult.{KeyResult}
use Rattle.mx_edit.specs.declared.scope.Scope.{Scope}
use Rattle.mx_runs.specs.Lists.{Has}
use Rattle.mx_runs.specs.Runs.{Model}
use Rattle.mx_runs.specs.Inputs.{is_input, InputsEnd}
use Rattle.mx_runs.specs.Chains.{HasValue}
use Rattle.mx_runs.specs.Support.{with_look, HasSameKeys, TestsAreCovered}
use Rattle.mx_answers.specs.Held.{most_held, nodes_of, IsRight, HoldAlike}
use Rattle.mx_answers.specs.Records.{IsRecordOf, HasRecord, HasReads, IsRightMemo}
use Rattle.mx_answers.specs.Answers.{Evaluation, Answer, IsSettled}
use Rattle.mx_answers.specs.Retention.{Retains, IsInScope, Clears, Tells, HasChanged, IsTouched, Sifts}

-- two right answers that are settled are the same
abbrev pub OneAnswer : Type 0
OneAnswer = (model : Model) (ev : Evaluation) (a b : Result Value EvalRefusal) (after last : List Entry) (ticks runs : ℕ) → Answer model ev a after ticks → Answer model ev b last runs → IsSettled a → IsSettled b → a ≡ b

-- where one right answer is settled, TooDeep and Full are not right
abbrev pub NotRefused : Type 0
NotRefused = (model : Model) (ev : Evaluation) (a b : Result Value EvalRefusal) (after last : List Entry) (ticks runs : ℕ) → Answer model ev a after ticks → Answer model ev b last runs → IsSettled a → (b ≡ Err refusal.NoMemory → ⊥) → IsSettled b

-- Both answer the same, leave what is held alike, and began as many runs. How many began is not told where there is no
-- such node or its arguments do not bind.
pub record EndAlike (a b : Result Value EvalRefusal) (after last : List Entry) (ticks runs : ℕ) : Type 0 where
  pub same : a ≡ b
  pub alike : HoldAlike after last
  pub began : (a ≡ Err refusal.NoSuch → ⊥) → (a ≡ Err refusal.WrongCount → ⊥) → ticks ≡ runs

-- Two evaluations of a node from what is held alike end alike, where one is settled and the other had memory.
abbrev pub OneStep : Type 0
OneStep = (model : Model) (ev : Evaluation) (others : List Entry) (a b : Result Value EvalRefusal) (after last : List Entry) (ticks runs : ℕ) → HoldAlike ev.held others → Answer model ev a after ticks → Answer model (record ev { held = others }) b last runs → IsSettled a → (b ≡ Err refusal.NoMemory → ⊥) → EndAlike a b after last ticks runs

-- what is right is held alike with itself: two evaluations from one right state are such
abbrev pub RightIsAlike : Type 0
RightIsAlike = (model : Model) (held : List Entry) → IsRight model held → HoldAlike held held

-- what is held after a right answer is right
abbrev pub StaysRight : Type 0
StaysRight = (model : Model) (ev : Evaluation) (a : Result Value EvalRefusal) (after : List Entry) (ticks : ℕ) → IsRight model ev.held → Answer model ev a after ticks → IsRight model after

-- an evaluation that answers a value began the runs of the nodes that it newly holds, and no others
abbrev pub ValueTicks : Type 0
ValueTicks = (model : Model) (ev : Evaluation) (v : Value) (after : List Entry) (ticks : ℕ) → Answer model ev (Ok v) after ticks → ticks + length ev.held ≡ length after

-- what is retained after an edit is right for it
abbrev pub RetainedIsRight : Type 0
RetainedIsRight = (model : Model) (other : Key → KeyResult) (held kept : List Entry) → InputsEnd model → InputsEnd (with_look model other) → TestsAreCovered model → IsRight model held → Retains model other held kept → IsRight (with_look model other) kept

-- what a clearing keeps is right
abbrev pub ClearedIsRight : Type 0
ClearedIsRight = (model : Model) (scope : Scope) (held kept : List Entry) → IsRight model held → Clears model (IsInScope scope) held kept → IsRight model kept

-- a node with a value has a record
abbrev pub ValueIsRecorded : Type 0
ValueIsRecorded = (model : Model) (n : Node) → HasValue model n → HasRecord model n

-- one node has one record
abbrev pub OneRecord : Type 0
OneRecord = (model : Model) (d e : Entry) → IsRecordOf model d → IsRecordOf model e → d.node ≡ e.node → d ≡ e

-- the record of a node of which no supporting key is changed is its record after the edit
abbrev pub RecordStays : Type 0
RecordStays = (model : Model) (other : Key → KeyResult) (e : Entry) → InputsEnd model → InputsEnd (with_look model other) → TestsAreCovered model → IsRecordOf model e → HasSameKeys model other e.node → IsRecordOf (with_look model other) e

-- a node has at most one list of reads
abbrev pub OneReads : Type 0
OneReads = (model : Model) (n : Node) (xs ys : List Read) → HasReads model n xs → HasReads model n ys → xs ≡ ys

-- an input reads nothing
abbrev pub InputReadsNone : Type 0
InputReadsNone = (model : Model) (n : Node) → InputsEnd model → is_input model n ≡ true → HasReads model n []

-- a right memo stays right where a record is held behind what it asked
abbrev pub Holding : Type 0
Holding = (model : Model) (held : List Entry) (e : Entry) → IsRightMemo model held → IsRecordOf model e → (Has (nodes_of held) e.node → ⊥) → is_input model e.node ≡ false → ((x : Node) → Has e.asks x → Has (nodes_of held) x) → length held < most_held → IsRightMemo model (held ++ e ∷ [])

-- so does what is left of it after a roll-back
abbrev pub RollingBack : Type 0
RollingBack = (model : Model) (held more : List Entry) → IsRightMemo model (held ++ more) → IsRightMemo model held

-- A right memo that loses what recorded a changed key, or led by recorded asks to what did, is right after the edit and
-- holds exactly what is retained.
pub record IsRetained (model : Model) (other : Key → KeyResult) (held kept : List Entry) : Type 0 where
  pub memo : IsRightMemo (with_look model other) kept
  pub retains : Retains model other held kept

-- what is left without what is touched by a changed key is such a memo
abbrev pub SiftedByKeys : Type 0
SiftedByKeys = (model : Model) (other : Key → KeyResult) (changed : Key → Bool) (held kept : List Entry) → InputsEnd model → InputsEnd (with_look model other) → TestsAreCovered model → Tells model.look other changed → IsRightMemo model held → Sifts (IsTouched (HasChanged changed) held) held kept → IsRetained model other held kept

-- A right memo that loses what is in a scope, or led to it by recorded asks, is right and holds exactly what a clearing
-- keeps.
pub record IsCleared (model : Model) (In : Entry → Type 0) (held kept : List Entry) : Type 0 where
  pub memo : IsRightMemo model kept
  pub clears : Clears model In held kept

-- what is left without what is touched by a scope is such a memo
abbrev pub SiftedByScope : Type 0
SiftedByScope = (model : Model) (scope : Scope) (held kept : List Entry) → InputsEnd model → IsRightMemo model held → Sifts (IsTouched (IsInScope scope) held) held kept → IsCleared model (IsInScope scope) held kept

-- the same, where the scope is told by a test
abbrev pub SiftedByTest : Type 0
SiftedByTest = (model : Model) (is_in : Entry → Bool) (held kept : List Entry) → InputsEnd model → IsRightMemo model held → Sifts (IsTouched (λ e. is_in e ≡ true) held) held kept → IsCleared model (λ e. is_in e ≡ true) held kept
