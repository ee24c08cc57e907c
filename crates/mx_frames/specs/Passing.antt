-- Where a run comes to that goes on past what is known.
use Rattle.std.specs.Prelude.{◌≡◌, Bool, true, false}
use Rattle.mx_edit.specs.declared.reply.Reply.{Reply}
use Rattle.mx_memo.specs.Memos.{Memory}
use Rattle.mx_runs.specs.Runs.{Model, Run, Asks, Ends}
use Rattle.mx_suspended.specs.Recorded.{GoesPast}
use Rattle.mx_value.specs.declared.node.Node.{Node}
use Rattle.mx_code_law.specs.States.{State}
use Rattle.mx_lookup.specs.Endings.{ending_of}
use Rattle.mx_node_runs.specs.Halts.{HaltsAs, Resumes}
use Rattle.mx_memo_laws.specs.Entries.{entries_of}
use Rattle.mx_binding.specs.Records.{recorded_in}
use Rattle.mx_frames.specs.Known.{HasBegun, IsUnknown}
use Rattle.mx_binding.specs.declared.records.Records.{Records}
use Rattle.mx_frames.specs.declared.current.Current.{Current}
use Rattle.mx_frames.specs.declared.current.Running.{Running}
use Rattle.mx_frames.specs.declared.passing.Passed.{Passed}
use Rattle.mx_frames.specs.declared.passing.Passed.TheVariants as passed
use Rattle.mx_frames.specs.declared.passing.Paused.{Paused}
use Rattle.mx_frames.specs.declared.passing.Paused.TheVariants as paused
use Rattle.mx_frames.specs.declared.passing.Stretch.{Stretch}

-- the node's own run has begun, or the node is new
abbrev pub Stands : Model → Memory → Node → Bool → Type 0
Stands model m n true = HasBegun model m n
Stands model m n false = IsUnknown model m n

-- the run of n is left where it pauses: at its end, or at an ask of a node that is not known, with whose answer it goes on
abbrev pub IsPausedAt : Model → Memory → Node → Run → Paused → State → Type 0
IsPausedAt model m n run (paused.Ends ending) s = run ≡ Ends (ending_of n ending)
IsPausedAt model m n run (paused.Asks a) s =
    (go : Reply → Run) × (run ≡ Asks a.node go) × Resumes n a.waiting s go × Stands model m a.node a.is_begun

-- whatever run it was, what is told of the node that it asks is so
abbrev pub IsTold : Model → Memory → Paused → Type 0
IsTold model m (paused.Ends ending) = Unit {0}
IsTold model m (paused.Asks a) = Stands model m a.node a.is_begun

-- a run goes on to where it pauses, and so its records grow
pub record Pauses (model : Model) (m : Memory) (run : Run) (olds : Records) (at : Stretch) (s : State) : Type 0 where
  pub rest : Run
  pub past : GoesPast model (entries_of m.held) run (recorded_in m.held olds) rest (recorded_in m.held at.current.records)
  pub pauses : IsPausedAt model m at.current.node rest at.paused s

-- a run goes on past what is known to where it halts, and so its records grow
pub record HaltsPast (model : Model) (m : Memory) (run : Run) (olds : Records) (at : Running) (s : State) : Type 0 where
  pub rest : Run
  pub past : GoesPast model (entries_of m.held) run (recorded_in m.held olds) rest (recorded_in m.held at.current.records)
  pub halts : HaltsAs at.current.node rest at.halt s

-- it does one or the other, with this recorded of it
abbrev pub PassesTo : Model → Memory → Run → Records → Current → Passed → State → Type 0
PassesTo model m run olds current (passed.Halts halt) s = HaltsPast model m run olds (record { current = current; halt = halt }) s
PassesTo model m run olds current (passed.Pauses p) s = Pauses model m run olds (record { current = current; paused = p }) s

-- it has halted once more, or what is told of the node that it asks is so
abbrev pub IsToldThen : Model → Memory → Passed → Type 0
IsToldThen model m (passed.Halts halt) = Unit {0}
IsToldThen model m (passed.Pauses p) = IsTold model m p
