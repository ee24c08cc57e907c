-- Steps of the runs in flight, up to the reply of the first.
use Rattle.std.specs.Prelude.{ℕ, List, Result}
use Rattle.mx_value.specs.declared.node.Node.{Node}
use Rattle.mx_value.specs.declared.refusal.EvalRefusal.{EvalRefusal}
use Rattle.mx_memo.specs.Memos.{Memory}
use Rattle.mx_runs.specs.Runs.{Model}
use Rattle.mx_stack.specs.Flight.{Flight}
use Rattle.mx_frames.specs.declared.current.Running.{Running}
use Rattle.mx_frames.specs.Flights.{AsksInOrder, Drove, Flew, Flies, IsAwaited, IsWithin, Work, first_of}
use Rattle.mx_frames.specs.declared.progress.Given.{Given}
use Rattle.mx_frames.specs.declared.progress.Progress.{Progress}
use Rattle.mx_frames.specs.declared.runs.Frame.{Frame}

-- how many runs are in flight at most, and how many of them wait below those of the stack
pub record Bounds : Type 0 where
  pub limit : ℕ
  pub below : ℕ

-- what is held, what stands on the stack, which runs wait, and how many have begun
pub record Stage : Type 0 where
  pub memory : Memory
  pub stack : Flight
  pub frames : List Frame
  pub now : ℕ

abbrev pub within : ℕ → ℕ → Bounds
within limit below = record { limit = limit; below = below }

abbrev pub stage : Memory → Flight → List Frame → ℕ → Stage
stage m stack frames now = record { memory = m; stack = stack; frames = frames; now = now }

-- a step of the run on top: whatever the runs in flight evaluate, they fly on
abbrev pub StepsTo : Model → Bounds → Running → Stage → Stage → Result Progress EvalRefusal → Type 0
StepsTo model b r old new result =
    (q : Work) → AsksInOrder model → IsWithin q b.limit b.below → Flies model q old.memory old.stack old.frames r old.now
    → Flew model q new.memory new.stack new.frames (first_of old.frames r.current.node) new.now result

-- steps up to the reply of the first node in flight, from the run on top
abbrev pub DrivesOn : Model → Bounds → Running → Stage → Memory → ℕ → Result Given EvalRefusal → Type 0
DrivesOn model b r old m now result =
    (q : Work) → AsksInOrder model → IsWithin q b.limit b.below → Flies model q old.memory old.stack old.frames r old.now
    → Drove model q m (first_of old.frames r.current.node) now result

-- and from a node whose run is to begin
abbrev pub DrivesFrom : Model → Bounds → Node → Stage → Memory → ℕ → Result Given EvalRefusal → Type 0
DrivesFrom model b n old m now result =
    (q : Work) → AsksInOrder model → IsWithin q b.limit b.below → IsAwaited model q old.memory old.stack old.frames n old.now
    → Drove model q m (first_of old.frames n) now result
