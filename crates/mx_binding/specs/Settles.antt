-- What the arguments of a node bind to, behind the walk of its address.
use Rattle.std.specs.Prelude.{◌≡◌, List, [], Option, Some, None}
use Rattle.mx_value.specs.declared.label.Label.{Label}
use Rattle.mx_value.specs.declared.value.Value.{Value}
use Rattle.mx_value.specs.declared.node.Node.{Node}
use Rattle.mx_value.specs.declared.node.Node.TheVariants.{Cell, Item}
use Rattle.mx_value.specs.declared.namespace.Namespace.{Namespace}
use Rattle.mx_syntax.specs.declared.stmt.Param.{Param}
use Rattle.mx_edit.specs.declared.key.Key.TheVariants as key
use Rattle.mx_runs.specs.Runs.{Model, Run, Ends, Tests, NoSuch, WrongCount, Event}
use Rattle.mx_runs.specs.Meaning.{Leads}
use Rattle.mx_runs.specs.Chains.{asks_of}
use Rattle.mx_meaning.specs.Binding.{cell_bound, item_sought}
use Rattle.mx_meaning.specs.Walks.{bound_or_refused}
use Rattle.mx_binding.specs.Walking.{Address}
use Rattle.mx_binding.specs.declared.settled.Settled.{Settled}
use Rattle.mx_binding.specs.declared.settled.Settled.TheVariants as settled

-- how a run goes on with a bound form
abbrev pub Goes : Type 0
Goes = Node → Run

-- what is left of binding a node in the namespace that its walk came to
abbrev pub binding_end : Node → Goes → Namespace → Run
binding_end (Cell at name args) go ns = Tests (key.Cells ns.source name) (cell_bound ns name args go)
binding_end (Item at args) go ns = item_sought ns args go

-- on with the bound form, or the refusal
abbrev pub settled_run : Settled → Goes → Run
settled_run (settled.Bound n) go = go n
settled_run settled.NoSuch go = Ends NoSuch
settled_run settled.WrongCount go = Ends WrongCount

-- by some events, of which none is an ask, binding comes to what was settled, however it goes on
pub record Settles (model : Model) (n : Node) (ns : Namespace) (to : Settled) : Type 0 where
  pub events : List Event
  pub leads : (go : Goes) → Leads model (binding_end n go ns) events (settled_run to go)
  pub asks_none : asks_of events ≡ []

-- so for cells and for an item at any address
abbrev pub CellsSettle : Model → Label → List Value → Namespace → Settled → Type 0
CellsSettle model name args ns to = (at : Address) → Settles model (Cell at name args) ns to

abbrev pub ItemSettles : Model → List Value → Namespace → Settled → Type 0
ItemSettles model args ns to = (at : Address) → Settles model (Item at args) ns to

-- what arguments bind to, in a node that is made of them in full
abbrev pub Binds : List Param → List Value → (List Value → Node) → Settled → Type 0
Binds known args node to = (go : Goes) → bound_or_refused known args (λ full. go (node full)) ≡ settled_run to go

-- the bound form, where there is one
abbrev pub bound_in : Settled → Option Node
bound_in (settled.Bound n) = Some n
bound_in settled.NoSuch = None
bound_in settled.WrongCount = None

-- the bound form that is settled in a namespace
pub record IsSettled (model : Model) (n : Node) (ns : Namespace) (found : Option Node) : Type 0 where
  pub to : Settled
  pub settles : Settles model n ns to
  pub is : found ≡ bound_in to
