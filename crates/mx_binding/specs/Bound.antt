-- The bound form of a node by what is held.
use Rattle.std.specs.Prelude.{List, Option, Some, None}
use Rattle.mx_value.specs.declared.node.Node.{Node}
use Rattle.mx_runs.specs.Runs.{Model}
use Rattle.mx_state.specs.Evaluations.{IsBoundBy}

-- the bound form of n that is known by these nodes, or none exactly where there is none
abbrev pub IsBoundForm : Model → List Node → Node → Option Node → Type 0
IsBoundForm model nodes n (Some b) = IsBoundBy model nodes n b
IsBoundForm model nodes n None = (b : Node) → IsBoundBy model nodes n b → ⊥
