-- What the definitions say of the small model.
use Rattle.std.specs.Prelude.{◌≡◌, ℕ, ◌≤◌, List, [], ◌∷◌, Result, Ok, Err}
use Rattle.mx_value.specs.declared.value.Value.{Value}
use Rattle.mx_value.specs.declared.refusal.EvalRefusal.{EvalRefusal}
use Rattle.mx_value.specs.declared.refusal.EvalRefusal.TheVariants.{Ring, TooDeep, NoMemory}
use Rattle.mx_edit.specs.Entry.{Entry}
use Rattle.mx_runs.specs.Inputs.{InputsEnd}
use Rattle.mx_runs.specs.Support.{TestsAreCovered}
use Rattle.mx_answers.specs.Records.{IsRightMemo}
use Rattle.mx_answers.specs.Answers.{Answer}
use Rattle.mx_answers.specs.Retention.{Retains}
use Rattle.mx_answers.specs.Laws.{EndAlike}
use Rattle.mx_answers_examples.specs.Small.{put, asker, circle, look, small, asked}

-- the runs of the small model are such as the laws are proved of
pub record AreRuns (v : Value) : Type 0 where
  pub inputs_end : InputsEnd (small v)
  pub tests_are_covered : TestsAreCovered (small v)

abbrev pub RunsMeetPremises : Type 0
RunsMeetPremises = (v : Value) → AreRuns v

-- the node that asks the input gives its value, by one run, in which it recorded the input's key and no ask
abbrev pub AskerGivesTheInput : Type 0
AskerGivesTheInput = (v : Value) (limit : ℕ) → 1 ≤ limit → Answer (small v) (record { node = asker; held = []; limit = limit }) (Ok v) (asked v ∷ []) 1

-- and no other right answer is settled: the node is held once, and not run twice
abbrev pub AskerEndsOnlySo : Type 0
AskerEndsOnlySo = (v : Value) (limit : ℕ) (b : Result Value EvalRefusal) (last : List Entry) (runs : ℕ) → 1 ≤ limit → Answer (small v) (record { node = asker; held = []; limit = limit }) b last runs → (b ≡ Err NoMemory → ⊥) → EndAlike (Ok v) b (asked v ∷ []) last 1 runs

abbrev pub InputIsNotHeld : Type 0
InputIsNotHeld = (v : Value) (limit : ℕ) → Answer (small v) (record { node = put; held = []; limit = limit }) (Ok v) [] 0

abbrev pub CircleIsARing : Type 0
CircleIsARing = (v : Value) (limit : ℕ) → 1 ≤ limit → Answer (small v) (record { node = circle; held = []; limit = limit }) (Err (Ring (circle ∷ []))) [] 1

-- where a chain may have no node, a node that is to be run is too deep, and one that is held is not
pub record AreLimited (v : Value) : Type 0 where
  pub too_deep : Answer (small v) (record { node = asker; held = []; limit = 0 }) (Err (TooDeep asker)) [] 0
  pub held : Answer (small v) (record { node = asker; held = asked v ∷ []; limit = 0 }) (Ok v) (asked v ∷ []) 0

abbrev pub NoRunIsAllowed : Type 0
NoRunIsAllowed = (v : Value) → AreLimited v

abbrev pub HeldIsRight : Type 0
HeldIsRight = (v : Value) → IsRightMemo (small v) (asked v ∷ [])

-- another input drops what asked it
abbrev pub ChangeDrops : Type 0
ChangeDrops = (v w : Value) → (w ≡ v → ⊥) → Retains (small v) (look w) (asked v ∷ []) []

abbrev pub SameChangeKeeps : Type 0
SameChangeKeeps = (v : Value) → Retains (small v) (look v) (asked v ∷ []) (asked v ∷ [])
