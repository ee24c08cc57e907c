-- What the run of a node does: its input, the walk of its address, and what is behind the walk.
use Rattle.std.specs.Prelude.{List, Option, Some, None}
use Rattle.mx_value.specs.declared.value.Value.{Value}
use Rattle.mx_value.specs.declared.value.Segment.{Segment}
use Rattle.mx_value.specs.declared.namespace.Namespace.{Namespace}
use Rattle.mx_value.specs.declared.node.Node.{Node}
use Rattle.mx_value.specs.declared.node.Node.TheVariants.{Cell, Item}
use Rattle.mx_edit.specs.declared.key.Key.TheVariants as key
use Rattle.mx_runs.specs.Runs.{Run, Looks}
use Rattle.mx_meaning.specs.Walks.{walked}
use Rattle.mx_meaning.specs.Nodes.{cells_found, item_run, value_given}

-- the address that a node's run walks
abbrev pub address_of : Node → List Segment
address_of (Cell at name args) = at
address_of (Item at args) = at

-- behind the walk of a node, in the namespace that it came to
abbrev pub behind : Node → Namespace → Run
behind (Cell at name args) ns = Looks (key.Cells ns.source name) (cells_found (Cell at name args) ns args)
behind (Item at args) ns = item_run (Item at args) args ns

-- the value that was put in for a node, or else its walk and what is behind
abbrev pub after_input : Node → Option Value → Run
after_input n (Some v) = value_given v
after_input n None = walked (address_of n) (behind n)
