-- Laws of the runs of formulas, over any way of looking keys up.
use Rattle.std.specs.Prelude.{◌≡◌, true, false, List, [], ◌∷◌, ◌++◌, Some, None}
use Rattle.mx_value.specs.declared.label.Label.{Label}
use Rattle.mx_value.specs.declared.value.Value.TheVariants.{Space}
use Rattle.mx_value.specs.declared.value.Segment.{Segment}
use Rattle.mx_value.specs.declared.namespace.Namespace.{Namespace}
use Rattle.mx_value.specs.declared.node.Node.{Node}
use Rattle.mx_value.specs.declared.node.Node.TheVariants.{Cell, Item}
use Rattle.mx_value.specs.declared.value.Value.{Value}
use Rattle.mx_value.specs.declared.value.Segment.TheVariants as segment
use Rattle.mx_edit.specs.declared.key.Key.{Key}
use Rattle.mx_edit.specs.declared.key.KeyResult.{KeyResult}
use Rattle.mx_edit.specs.declared.reply.Reply.{Reply}
use Rattle.mx_runs.specs.Runs.{Model, Run, Event, Gives}
use Rattle.mx_runs.specs.Meaning.{Means, Leads}
use Rattle.mx_runs.specs.Chains.{DoesAsk}
use Rattle.mx_runs.specs.Inputs.{InputsEnd}
use Rattle.mx_runs.specs.Support.{TestsAreCovered}
use Rattle.mx_meaning.specs.Binding.{binding}
use Rattle.mx_meaning.specs.References.{names_added, relative, target_of}
use Rattle.mx_meaning.specs.Nodes.{body}

-- formulas over a text, of which is known what its keys lead to
abbrev pub model_of : (Key → KeyResult) → Model
model_of look = record { look = look; body = body }

-- b is the bound form of n: by these events the binding of n comes to go on with b, whatever comes then
pub record BindsTo (model : Model) (n b : Node) : Type 0 where
  pub events : List Event
  pub leads : (go : Node → Run) → Leads model (binding n go) events (go b)

-- a reply with the space at this address, and with it a namespace of the same address
pub record IsSpaceAt (at : List Segment) (r : Reply) : Type 0 where
  pub space : Namespace
  pub is : r ≡ record { value = Space at; namespace = Some space }
  pub address : space.at ≡ at

-- ---- laws

-- the run of an input looks its value up and ends with it
abbrev pub InputsEndRuns : Type 0
InputsEndRuns = (look : Key → KeyResult) → InputsEnd (model_of look)

-- each node that a run asks is its own bound form
abbrev pub AskedIsBound : Type 0
AskedIsBound = (look : Key → KeyResult) (n m : Node) → DoesAsk (model_of look) n m → BindsTo (model_of look) m m

-- a key that a run with a value tests is looked up by a node that it asks
abbrev pub TestsAreOfAsked : Type 0
TestsAreOfAsked = (look : Key → KeyResult) → TestsAreCovered (model_of look)

-- a node has at most one bound form
abbrev pub OneBoundForm : Type 0
OneBoundForm = (look : Key → KeyResult) (n b c : Node) → BindsTo (model_of look) n b → BindsTo (model_of look) n c → b ≡ c

-- a bound form is its own bound form
abbrev pub BoundIsBound : Type 0
BoundIsBound = (look : Key → KeyResult) (n b : Node) → BindsTo (model_of look) n b → BindsTo (model_of look) b b

-- an item node that is its own bound form gives the space at its address with the item
abbrev pub ItemsGiveSpaces : Type 0
ItemsGiveSpaces =
    (look : Key → KeyResult) (at : List Segment) (args : List Value) (r : Reply) → BindsTo (model_of look) (Item at args) (Item at args)
    → Means (model_of look) (Item at args) (Gives r) → IsSpaceAt (at ++ segment.Item args ∷ []) r

-- cells give a value alone, with no namespace
abbrev pub CellsGiveValues : Type 0
CellsGiveValues = (look : Key → KeyResult) (at : List Segment) (name : Label) (args : List Value) (r : Reply) → Means (model_of look) (Cell at name args) (Gives r) → r.namespace ≡ None

-- A target that is not fixed, of a reference that the space at a path defines, lies below that path: then it leads, from
-- where the look-up was made, to what lies there in the same place.
abbrev pub RelativeTargets : Type 0
RelativeTargets =
    (ns : Namespace) (first : Label) (owner rest : List Label)
    → target_of ns (first ∷ owner ++ rest) (relative (first ∷ owner) false (first ∷ owner ++ rest)) ≡ record { at = names_added ns.at rest; path = ns.source ++ rest }

-- a target that is fixed leads where it was written
abbrev pub FixedTargets : Type 0
FixedTargets = (ns : Namespace) (owner path : List Label) → target_of ns path (relative owner true path) ≡ record { at = names_added [] path; path = path }

-- so does one of a reference of the model, which no space defines
abbrev pub ModelTargets : Type 0
ModelTargets = (ns : Namespace) (path : List Label) → target_of ns path (relative [] false path) ≡ record { at = names_added [] path; path = path }
