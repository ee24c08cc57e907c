-- A run asks the items on the way of a node before it asks the node, and the items that a walk asks lie on the way of the
-- node's bound form.
use Rattle.std.specs.Prelude.{◌≡◌, List, ◌∷◌, ◌++◌}
use Rattle.mx_value.specs.declared.value.Value.{Value}
use Rattle.mx_value.specs.declared.value.Segment.{Segment}
use Rattle.mx_value.specs.declared.value.Segment.TheVariants as segment
use Rattle.mx_value.specs.declared.node.Node.{Node}
use Rattle.mx_value.specs.declared.node.Node.TheVariants.{Cell, Item}
use Rattle.mx_edit.specs.declared.key.Key.{Key}
use Rattle.mx_edit.specs.declared.key.KeyResult.{KeyResult}
use Rattle.mx_edit.specs.declared.reply.Reply.{Reply}
use Rattle.mx_runs.specs.Runs.{Run, Event, Asks}
use Rattle.mx_runs.specs.Meaning.{Leads}
use Rattle.mx_runs.specs.Lists.{Has}
use Rattle.mx_runs.specs.Chains.{asks_of}
use Rattle.mx_meaning.specs.Nodes.{body}
use Rattle.mx_meaning.specs.Walks.{Onward, entered, walked_from, walked}
use Rattle.mx_meaning.specs.Laws.{model_of, BindsTo}

-- the address whose walk begins the run of a node
abbrev pub address_of : Node → List Segment
address_of (Cell at name args) = at
address_of (Item at args) = at

-- the way to an address leads through the space of the item node of this address and these arguments
pub record PassesThrough (address at : List Segment) (args : List Value) : Type 0 where
  pub behind : List Segment
  pub is : address ≡ at ++ segment.Item args ∷ behind

-- a run that comes to ask a node has asked each item node through whose space the way to that node leads
abbrev pub ItemsFirst : Type 0
ItemsFirst =
    (look : Key → KeyResult) (n m : Node) (es : List Event) (go : Reply → Run)
    → (at : List Segment) (args : List Value)
    → Leads (model_of look) (body n) es (Asks m go)
    → PassesThrough (address_of m) at args → Has (asks_of es) (Item at args)

-- the bound form of a node lies in the space of each item that the walk of the node's address asks
abbrev pub WaitsOnTheWay : Type 0
WaitsOnTheWay =
    (look : Key → KeyResult) (n b : Node) (es : List Event) (at : List Segment) (args : List Value) (more : List Segment)
    → BindsTo (model_of look) n b
    → ((go : Onward) → Leads (model_of look) (walked (address_of n) go) es (Asks (Item at args) (λ r. entered r.namespace (λ ns. walked_from more ns go))))
    → PassesThrough (address_of b) at args
