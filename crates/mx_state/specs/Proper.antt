-- Which nodes may be handed in, and which addresses are there.
use Rattle.std.specs.Prelude.{◌≡◌, ◌≤◌, Bool, true, false, ◌||◌, ◌&&◌, List, [], ◌∷◌, length}
use Rattle.mx_value.specs.Plain.{is_plain}
use Rattle.mx_value.specs.Size.{size_of}
use Rattle.mx_value.specs.Nesting.{nesting_of}
use Rattle.mx_value.specs.declared.value.Value.{Value}
use Rattle.mx_value.specs.declared.value.Value.TheVariants.{Space}
use Rattle.mx_value.specs.declared.value.Segment.{Segment, out-Segment}
use Rattle.mx_value.specs.declared.value.Segment.TheOpen.{Segment-F}
use Rattle.mx_value.specs.declared.namespace.Namespace.{Namespace}
use Rattle.mx_value.specs.declared.node.Node.{Node}
use Rattle.mx_value.specs.declared.node.Node.TheVariants.{Cell, Item}
use Rattle.mx_runs.specs.Lists.{Has}
use Rattle.mx_runs.specs.Runs.{Model, Run, Event}
use Rattle.mx_runs.specs.Inputs.{is_name}
use Rattle.mx_runs.specs.Meaning.{Leads}
use Rattle.mx_meaning.specs.Namespaces.{Step}
use Rattle.mx_meaning.specs.Walks.{walked}

-- ---- arguments

-- a plain value within the limits on size and nesting
pub record IsArgument (v : Value) : Type 0 where
  pub plain : is_plain v ≡ true
  pub small : size_of v ≤ 1_000_000
  pub flat : nesting_of v ≤ 64

abbrev pub AreArguments : List Value → Type 0
AreArguments args = (v : Value) → Has args v → IsArgument v

-- an item has arguments
abbrev pub IsStep : Step → Type 0
IsStep (Segment-F.Name name) = Unit {0}
IsStep (Segment-F.Item args) = AreArguments args

-- ---- nodes

abbrev pub address_of : Node → List Segment
address_of (Cell at name args) = at
address_of (Item at args) = at

abbrev pub arguments_of : Node → List Value
arguments_of (Cell at name args) = args
arguments_of (Item at args) = args

-- the arguments of a node and those of the items of its address are such
pub record HasArguments (n : Node) : Type 0 where
  pub own : AreArguments (arguments_of n)
  pub items : (s : Segment) → Has (address_of n) s → IsStep (out-Segment s)

-- A node that may be handed in: it has arguments, and its address as a space has a size within the limit.
pub record IsProper (n : Node) : Type 0 where
  pub has : HasArguments n
  pub small : size_of (Space (address_of n)) ≤ 1_000_000

-- ---- addresses

-- each item follows a name, where the flag says whether one stands before
abbrev pub items_follow : Bool → List Segment → Bool
items_follow named [] = true
items_follow named (s ∷ more) = (is_name (out-Segment s) || named) && items_follow (is_name (out-Segment s)) more

-- An address that can be there: it is not empty, does not begin with an item, has no item behind an item, has at most 64
-- segments and, as a space, a size within the limit.
pub record IsPlace (at : List Segment) : Type 0 where
  pub some : at ≡ [] → ⊥
  pub apart : items_follow false at ≡ true
  pub short : length at ≤ 64
  pub small : size_of (Space at) ≤ 1_000_000

-- the space of an address is there: the walk of the address comes to a namespace
pub record IsThere (model : Model) (at : List Segment) : Type 0 where
  pub space : Namespace
  pub events : List Event
  pub leads : (go : Namespace → Run) → Leads model (walked at go) events (go space)
