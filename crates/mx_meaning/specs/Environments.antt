-- Where a formula runs, and how its parts are read there: going on with what they give.
use Rattle.std.specs.Prelude.{ℕ, Bool, if◌then◌else◌, List, [], ◌∷◌, Option, Some, None, Result, Ok, Err}
use Rattle.mx_value.specs.Name.{same_name}
use Rattle.mx_value.specs.declared.label.Label.{Label}
use Rattle.mx_value.specs.declared.value.Value.{Value}
use Rattle.mx_value.specs.declared.node.Node.{Node}
use Rattle.mx_value.specs.declared.namespace.Namespace.{Namespace}
use Rattle.mx_value.specs.declared.fault.FaultKind.{FaultKind}
use Rattle.mx_runs.specs.Runs.{Run, Ends, Faults}

-- the locals of a formula, each with its value where it is set
abbrev pub Locals : Type 0
Locals = List (Label × Option Value)

-- The node whose formula runs, the namespace in which it looks names up, the line of the statement that is being done,
-- and its locals.
pub record Env : Type 0 where
  pub node : Node
  pub namespace : Namespace
  pub line : ℕ
  pub locals : Locals

-- how a part is read in an environment, going on with its value
abbrev pub Reading : Type 0
Reading = Env → (Value → Run) → Run

-- a fault of the statement that is being done
abbrev pub fault : FaultKind → Env → Run
fault kind env = Ends (Faults kind env.node env.line)

-- on with what was computed, or the fault that came of it
abbrev pub computed : {X : Type 0} → Result X FaultKind → Env → (X → Run) → Run
computed (Ok x) env go = go x
computed (Err kind) env go = fault kind env

-- the one or the other run, by what a test gave, or the fault that came of it
abbrev pub tested : Result Bool FaultKind → Run → Run → Env → Run
tested holds given other env = computed holds env (λ b. if b then given else other)

-- a local, with its value where it is set
abbrev pub local_of : Locals → Label → Option (Option Value)
local_of [] name = None
local_of (l ∷ ls) name = if same_name l.0 name then Some l.1 else local_of ls name

-- with this value of the first local of the name
abbrev pub set_in : Locals → Label → Value → Locals
set_in [] name v = (name, Some v) ∷ []
set_in (l ∷ ls) name v = if same_name l.0 name then (l.0, Some v) ∷ ls else l ∷ set_in ls name v

-- with this value of a local
abbrev pub with_local : Label → Value → Env → Env
with_local name v env = record env { locals = set_in env.locals name v }

-- in a scope of its own: a name that hides the local of that name
abbrev pub within : Label → Value → Env → Env
within name v env = record env { locals = (name, Some v) ∷ env.locals }

-- the same at a line
abbrev pub at_line : ℕ → Env → Env
at_line line env = record env { line = line }
