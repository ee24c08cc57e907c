-- Where the run of a node halts, and how it goes on from there.
use Rattle.std.specs.Prelude.{◌≡◌, List}
use Rattle.mx_value.specs.declared.node.Node.{Node}
use Rattle.mx_edit.specs.Entry.{Entry}
use Rattle.mx_edit.specs.declared.reply.Reply.{Reply}
use Rattle.mx_runs.specs.Runs.{Model, Run, Ends, Asks}
use Rattle.mx_suspended.specs.Recorded.{GoesPast}
use Rattle.mx_meaning.specs.Walks.{entered, walked_from}
use Rattle.mx_code.specs.Told.{told}
use Rattle.mx_code_law.specs.States.{State}
use Rattle.mx_code_law.specs.Machine.{Does}
use Rattle.mx_read_set.specs.Seen.{Seen}
use Rattle.mx_stack.specs.Flight.{Flight, idle}
use Rattle.mx_lookup.specs.Endings.{ending_of}
use Rattle.mx_lookup.specs.Homes.{home_of}
use Rattle.mx_interpreter.specs.Runs.{recorded, resumed}
use Rattle.mx_node_runs.specs.Behind.{behind}
use Rattle.mx_node_runs.specs.declared.halt.Waiting.{Waiting}
use Rattle.mx_node_runs.specs.declared.halt.Waiting.TheVariants as waiting
use Rattle.mx_node_runs.specs.declared.halt.Halt.{Halt}
use Rattle.mx_node_runs.specs.declared.halt.Halt.TheVariants as halt

-- the run of a node goes on with each reply as this says
abbrev pub Resumes : Node → Waiting → State → (Reply → Run) → Type 0
Resumes n (waiting.OnWay onward) s go =
    (s ≡ idle) × ((r : Reply) → go r ≡ entered r.namespace (λ ns. walked_from onward ns (behind n)))
Resumes n (waiting.InCode c) s go =
    (c.home.node ≡ n) × ((r : Reply) → Does (told c.code) (home_of c.home) (resumed c.resume r s) (go r))

-- a run goes on past what it looks up, tests and notes, and so more is read, whatever nodes it asked
abbrev pub GoesOn : Model → Run → Seen → Run → Seen → Type 0
GoesOn model run olds rest news =
    (held : List Entry) (asks : List Node) → GoesPast model held run (recorded olds asks) rest (recorded news asks)

-- what is left of the run of a node where it halts
abbrev pub HaltsAs : Node → Run → Halt → State → Type 0
HaltsAs n rest (halt.Ends e) s = rest ≡ Ends (ending_of n e)
HaltsAs n rest (halt.Asks m waiting) s = (go : Reply → Run) × (rest ≡ Asks m go) × Resumes n waiting s go

-- the run of a node goes on to where it halts
pub record HaltsAt (model : Model) (n : Node) (run : Run) (olds news : Seen) (at : Halt) (s : State) : Type 0 where
  pub rest : Run
  pub past : GoesOn model run olds rest news
  pub halts : HaltsAs n rest at s

-- where no code of it has begun, it does so, and keeps what belongs to the runs below
abbrev pub HaltsFrom : Model → Node → Run → Seen → Seen → Halt → Flight → Flight → Type 0
HaltsFrom model n run olds news at before after =
    before.top ≡ idle → HaltsAt model n run olds news at after.top × (after.below ≡ before.below)
