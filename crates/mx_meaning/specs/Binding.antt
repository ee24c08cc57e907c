-- The bound form of a node: its address with each item bound, and its own arguments bound. Since what an item's arguments
-- bind to is known by what the items before it mean, binding is a run. It has no keys: what it tests, the node's own run
-- looks up.
use Rattle.std.specs.Prelude.{if◌then◌else◌, List}
use Rattle.mx_value.specs.declared.label.Label.{Label}
use Rattle.mx_value.specs.declared.value.Value.{Value}
use Rattle.mx_value.specs.declared.node.Node.{Node}
use Rattle.mx_value.specs.declared.node.Node.TheVariants.{Cell, Item}
use Rattle.mx_value.specs.declared.namespace.Namespace.{Namespace}
use Rattle.mx_edit.specs.declared.key.Key.TheVariants as key
use Rattle.mx_edit.specs.declared.key.KeyResult.{KeyResult}
use Rattle.mx_edit.specs.declared.key.KeyResult.TheVariants as found
use Rattle.mx_runs.specs.Runs.{Run, Ends, Tests, NoSuch}
use Rattle.mx_meaning.specs.Namespaces.{ends_with_name}
use Rattle.mx_meaning.specs.Walks.{walked, bound_or_refused}

-- by what the cells are: their formula has the parameters
abbrev pub cell_bound : Namespace → Label → List Value → (Node → Run) → KeyResult → Run
cell_bound ns name args go (found.Formula f allow) = bound_or_refused f.params args (λ vs. go (Cell ns.at name vs))
cell_bound ns name args go other = Ends NoSuch

-- by what the space is: one with parameters, or no such node
abbrev pub item_bound : Namespace → List Value → (Node → Run) → KeyResult → Run
item_bound ns args go (found.Params ps) = bound_or_refused ps.params args (λ vs. go (Item ns.at vs))
item_bound ns args go other = Ends NoSuch

-- the item of a space, which has to be one whose address ends with a name
abbrev pub item_sought : Namespace → List Value → (Node → Run) → Run
item_sought ns args go = if ends_with_name ns.at then Tests (key.Params ns.source) (item_bound ns args go) else Ends NoSuch

-- A node as it is asked from outside, going on with its bound form: after the walk of its address, its arguments bind to
-- the parameters of its cells or of its space. Where these are not there it is no such node, and arguments that don't
-- bind are a wrong count.
abbrev pub binding : Node → (Node → Run) → Run
binding (Cell at name args) go = walked at (λ ns. Tests (key.Cells ns.source name) (cell_bound ns name args go))
binding (Item at args) go = walked at (λ ns. item_sought ns args go)
