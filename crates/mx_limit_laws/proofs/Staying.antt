-- Runs that stay within the limits, and the environments in which formulas run.
use Rattle.std.proofs.Common.{Bool, true, false, if◌then◌else◌, List, [], ◌∷◌, Option, Some, Result, Ok, Err}
use Rattle.mx_value.specs.Name.{same_name}
use Rattle.mx_value.specs.declared.label.Label.{Label}
use Rattle.mx_value.specs.declared.value.Value.{Value}
use Rattle.mx_value.specs.declared.value.Segment.{Segment, out-Segment}
use Rattle.mx_value.specs.declared.namespace.Namespace.{Namespace}
use Rattle.mx_value.specs.declared.node.Node.TheVariants.{Cell, Item}
use Rattle.mx_value.specs.declared.fault.FaultKind.{FaultKind}
use Rattle.mx_edit.specs.declared.key.Key.{Key}
use Rattle.mx_edit.specs.declared.key.KeyResult.{KeyResult}
use Rattle.mx_edit.specs.declared.reply.Reply.{Reply}
use Rattle.mx_runs.specs.Runs.{Run, Ends, Looks, Tests, Asks, Notes, Outcome, Gives, Faults, NoSuch, WrongCount, NoLevel}
use Rattle.mx_meaning.specs.Namespaces.{Overlay, child, value_in, overlaid, overlaid_by}
use Rattle.mx_meaning.specs.Environments.{Env, Locals, computed, tested, local_of, set_in, with_local, within}
use Rattle.mx_state.specs.Proper.{IsArgument, IsStep, IsProper}
use Rattle.mx_limit_laws.specs.Values.{Each, IsWithin, IsAnswerWithin, IsAddress}
use Rattle.mx_limit_laws.specs.Replies.{IsSmallNamespace, IsSmallReply}
use Rattle.mx_limit_laws.proofs.Lists.{IfAny, if_any, if_each, each_has}
use Rattle.mx_limit_laws.proofs.Addresses.{names_address}

-- ---- runs

abbrev pub IsSmallOutcome : Outcome → Type 0
IsSmallOutcome (Gives r) = IsSmallReply r
IsSmallOutcome (Faults kind n line) = Unit {0}
IsSmallOutcome NoSuch = Unit {0}
IsSmallOutcome WrongCount = Unit {0}
IsSmallOutcome NoLevel = Unit {0}

-- Each node that the run asks is proper, and the reply that it ends with is within the limits, where those of the
-- asked nodes are.
abbrev pub Stays : (Key → KeyResult) → Run → Type 0
Stays look (Ends o) = IsSmallOutcome o
Stays look (Looks k go) = Stays look (go (look k))
Stays look (Tests k go) = Stays look (go (look k))
Stays look (Asks m go) = IsProper m × ((r : Reply) → IsSmallReply r → Stays look (go r))
Stays look (Notes read run) = Stays look run

pub if_stays : (look : Key → KeyResult) (b : Bool) (given other : Run) → Stays look given → Stays look other → Stays look (if b then given else other)
if_stays look true given other g o = g
if_stays look false given other g o = o

-- on with what was computed
pub computed_stays : (look : Key → KeyResult) (r : Result Value FaultKind) → IsAnswerWithin r → (env : Env) (go : Value → Run) → ((v : Value) → IsWithin v → Stays look (go v)) → Stays look (computed r env go)
computed_stays look (Ok v) w env go k = k v w
computed_stays look (Err kind) w env go k = tt

-- with whatever was computed
pub any_stays : {X : Type 0} (look : Key → KeyResult) (r : Result X FaultKind) (env : Env) (go : X → Run) → ((x : X) → Stays look (go x)) → Stays look (computed r env go)
any_stays look (Ok x) env go k = k x
any_stays look (Err kind) env go k = tt

pub tested_stays : (look : Key → KeyResult) (r : Result Bool FaultKind) (given other : Run) (env : Env) → Stays look given → Stays look other → Stays look (tested r given other env)
tested_stays look r given other env g o = any_stays look r env _ (λ b. if_stays look b given other g o)

-- ---- nodes

pub cell_proper : (at : List Segment) (name : Label) (args : List Value) → IsAddress at → Each IsArgument args → IsProper (Cell at name args)
cell_proper at name args d a = record { has = record { own = each_has IsArgument args a; items = each_has (λ (s : Segment). IsStep (out-Segment s)) at d.steps }; small = d.small }

pub item_proper : (at : List Segment) (args : List Value) → IsAddress at → Each IsArgument args → IsProper (Item at args)
item_proper at args d a = record { has = record { own = each_has IsArgument args a; items = each_has (λ (s : Segment). IsStep (out-Segment s)) at d.steps }; small = d.small }

-- ---- namespaces

pub child_small : (name : Label) (ns : Namespace) → IsSmallNamespace ns → IsSmallNamespace (child name ns)
child_small name ns n = record { address = names_address ns.at (name ∷ []) n.address; overlay = n.overlay }

abbrev pub AreSmall : Overlay → Type 0
AreSmall over = Each (λ (o : Label × Value). IsWithin o.1) over

pub value_in_small : (over : Overlay) → AreSmall over → (name : Label) → IfAny IsWithin (value_in over name)
value_in_small [] h name = tt
value_in_small (o ∷ over) h name = if_any IsWithin (same_name o.0 name) (Some o.1) (value_in over name) h.0 (value_in_small over h.1 name)

pub overlaid_small : (over : Overlay) → AreSmall over → (name : Label) (v : Value) → IsWithin v → AreSmall (overlaid over name v)
overlaid_small [] h name v w = (w, tt)
overlaid_small (o ∷ over) h name v w = if_each (λ (o : Label × Value). IsWithin o.1) (same_name o.0 name) ((o.0, v) ∷ over) (o ∷ overlaid over name v) (w, h.1) (h.0, overlaid_small over h.1 name v w)

pub overlaid_by_small : (under over : Overlay) → AreSmall under → AreSmall over → AreSmall (overlaid_by under over)
overlaid_by_small under [] h k = h
overlaid_by_small under (o ∷ over) h k = overlaid_by_small (overlaid under o.0 o.1) over (overlaid_small under h o.0 o.1 k.0) k.1

-- ---- environments

abbrev pub AreSmallLocals : Locals → Type 0
AreSmallLocals locals = Each (λ (l : Label × Option Value). IfAny IsWithin l.1) locals

pub record IsSmallEnv (env : Env) : Type 0 where
  pub namespace : IsSmallNamespace env.namespace
  pub locals : AreSmallLocals env.locals

pub local_small : (locals : Locals) → AreSmallLocals locals → (name : Label) → IfAny (λ l. IfAny IsWithin l) (local_of locals name)
local_small [] h name = tt
local_small (l ∷ locals) h name = if_any (λ l. IfAny IsWithin l) (same_name l.0 name) (Some l.1) (local_of locals name) h.0 (local_small locals h.1 name)

set_small : (locals : Locals) → AreSmallLocals locals → (name : Label) (v : Value) → IsWithin v → AreSmallLocals (set_in locals name v)
set_small [] h name v w = (w, tt)
set_small (l ∷ locals) h name v w = if_each (λ (l : Label × Option Value). IfAny IsWithin l.1) (same_name l.0 name) ((l.0, Some v) ∷ locals) (l ∷ set_in locals name v) (w, h.1) (h.0, set_small locals h.1 name v w)

pub with_local_small : (env : Env) → IsSmallEnv env → (name : Label) (v : Value) → IsWithin v → IsSmallEnv (with_local name v env)
with_local_small env e name v w = record { namespace = e.namespace; locals = set_small env.locals e.locals name v w }

pub within_small : (env : Env) → IsSmallEnv env → (name : Label) (v : Value) → IsWithin v → IsSmallEnv (within name v env)
within_small env e name v w = record { namespace = e.namespace; locals = (w, e.locals) }
