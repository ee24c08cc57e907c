-- Walks of addresses, and what nodes bind to behind them.
use Rattle.std.specs.Prelude.{◌≡◌, Bool, true, false, List, length}
use Rattle.mx_value.specs.declared.label.Label.{Label}
use Rattle.mx_value.specs.declared.value.Value.{Value}
use Rattle.mx_value.specs.declared.value.Segment.{Segment}
use Rattle.mx_value.specs.declared.namespace.Namespace.{Namespace}
use Rattle.mx_value.specs.declared.node.Node.{Node}
use Rattle.mx_value.specs.declared.node.Node.TheVariants.{Cell, Item}
use Rattle.mx_syntax.specs.declared.stmt.Params.{Params}
use Rattle.mx_syntax.specs.declared.stmt.Formula.{Formula}
use Rattle.mx_syntax.specs.Binding.{bound, is_wrong_count}
use Rattle.mx_edit.specs.declared.key.Key.TheVariants as key
use Rattle.mx_edit.specs.declared.key.KeyResult.TheVariants as found
use Rattle.mx_runs.specs.Runs.{Model, Run, Asks, Event}
use Rattle.mx_runs.specs.Inputs.{is_static}
use Rattle.mx_runs.specs.Meaning.{Leads}
use Rattle.mx_meaning.specs.Namespaces.{ends_with_name}
use Rattle.mx_meaning.specs.Walks.{Onward, entered, walked_from, walked}
use Rattle.mx_meaning.specs.Binding.{binding}
use Rattle.mx_state.specs.Proper.{address_of}

-- ---- where a walk stands

-- by these events the walk of the address comes to a namespace, whatever comes then
abbrev pub ComesTo : Model → List Segment → List Event → Namespace → Type 0
ComesTo model at es ns = (go : Onward) → Leads model (walked at go) es (go ns)

-- by these events it comes to ask an item node, behind which these segments are left
abbrev pub WaitsFor : Model → List Segment → List Event → Node → List Segment → Type 0
WaitsFor model at es i more = (go : Onward) → Leads model (walked at go) es (Asks i (λ r. entered r.namespace (λ ns. walked_from more ns go)))

-- it does so with some segments left
pub record WaitsSomehow (model : Model) (at : List Segment) (es : List Event) (i : Node) : Type 0 where
  pub more : List Segment
  pub waits : WaitsFor model at es i more

-- Where the walk of the one address stands by some events, that of the other stands by the same: in the same namespace, or
-- before the same item node. The other has items where the one has.
pub record WalksAlike (model : Model) (at other : List Segment) : Type 0 where
  pub comes : (es : List Event) (ns : Namespace) → ComesTo model at es ns → ComesTo model other es ns
  pub waits : (es : List Event) (i : Node) (more : List Segment) → WaitsFor model at es i more → WaitsSomehow model other es i
  pub static : is_static other ≡ is_static at

-- ---- behind a walk

-- the binding of a node begins with the walk of its address
pub record BindsBehind (n : Node) : Type 0 where
  pub behind : (Node → Run) → Onward
  pub is : (go : Node → Run) → binding n go ≡ walked (address_of n) (behind go)

-- the space has cells of the name, to whose parameters the arguments bind: b is the node of them
pub record BindsCells (model : Model) (ns : Namespace) (name : Label) (args : List Value) (b : Node) : Type 0 where
  pub formula : Formula
  pub allow : Bool
  pub here : model.look (key.Cells ns.source name) ≡ found.Formula formula allow
  pub count : is_wrong_count formula.params (length args) ≡ false
  pub is : b ≡ Cell ns.at name (bound formula.params args)

-- the space can have items, and has parameters to which the arguments bind: b is the item of them
pub record BindsItem (model : Model) (ns : Namespace) (args : List Value) (b : Node) : Type 0 where
  pub params : Params
  pub named : ends_with_name ns.at ≡ true
  pub here : model.look (key.Params ns.source) ≡ found.Params params
  pub count : is_wrong_count params.params (length args) ≡ false
  pub is : b ≡ Item ns.at (bound params.params args)
