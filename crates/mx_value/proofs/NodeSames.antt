-- `==` on nodes, reads, namespaces and refusals says that the plain trees are the same.
use Rattle.std.proofs.Common.{◌≡◌, ℕ, Bool, true, ◌&&◌, ◌==◌, List, refl, ap, rules}
use Rattle.std.specs.Bool.{Decides}
use Rattle.std.specs.Cmp.Lexicographic.{pointwise, pointwise_decides}
use denote.Enum.Compared.{Each}
use Rattle.mx_value.specs.declared.node.Node.{Node}
use Rattle.mx_value.specs.declared.read.Read.{Read}
use Rattle.mx_value.specs.declared.namespace.Namespace.{Namespace}
use Rattle.mx_value.specs.declared.refusal.EvalRefusal.{EvalRefusal}
use Rattle.mx_value.specs.declared.fault.FaultKind.{FaultKind}
use denote.Enum.Bare.{same_true, true_same}
use Rattle.std.specs.Cmp.{unsigned_Decides}
use Rattle.mx_value.proofs.Enums.{DecidesAt, enum_decides, both_decide, decides_as, last_field, more_fields, text_decides}
use Rattle.mx_value.proofs.Sames.{value_decides, segment_decides}
use Rattle.mx_value.specs.declared.value.Value.{Value}
use Rattle.mx_value.specs.declared.value.Segment.{Segment}
use Rattle.mx_value.specs.declared.node.Node.TheVariants.{Cell, Item}
use Rattle.mx_value.specs.declared.read.Read.TheVariants as reads
use Rattle.mx_value.specs.declared.refusal.EvalRefusal.TheVariants as refusals
use Rattle.mx_value.specs.contracts.fault.FaultKind as fault_type
use Rattle.mx_value.specs.contracts.value.ValuePartialEq.TheImpl as value
use Rattle.mx_value.specs.contracts.value.SegmentPartialEq.TheImpl as segment
use Rattle.mx_value.specs.contracts.node.Node as node_type
use Rattle.mx_value.specs.contracts.node.NodePartialEq.TheImpl as node
use Rattle.mx_value.specs.contracts.read.Read as read_type
use Rattle.mx_value.specs.contracts.read.ReadPartialEq.TheImpl as read
use Rattle.mx_value.specs.contracts.namespace.NamespacePartialEq.TheImpl as namespace
use Rattle.mx_value.specs.contracts.refusal.EvalRefusal as refusal_type
use Rattle.mx_value.specs.contracts.refusal.EvalRefusalPartialEq.TheImpl as refusal
use Rattle.mx_value.specs.contracts.fault.FaultKindPartialEq.TheImpl as fault

pub addr_decides : (xs ys : List Segment) → Decides (pointwise (segment.ghosts).eq xs ys) (xs ≡ ys)
addr_decides = pointwise_decides segment_decides

pub items_decides : (xs ys : List Value) → Decides (pointwise (value.ghosts).eq xs ys) (xs ≡ ys)
items_decides = pointwise_decides value_decides

pub path_decides : (xs ys : List (List ℕ)) → Decides (pointwise (pointwise ◌==◌) xs ys) (xs ≡ ys)
path_decides = pointwise_decides text_decides

pub fault_decides : (a b : FaultKind) → Decides ((fault.ghosts).eq a b) (a ≡ b)
fault_decides a b = (same_true fault_type.the_type (search rules) a b, true_same fault_type.the_type a b)

abbrev each_node : Each Bool node_type.the_parts
each_node = (
  (λ x y. pointwise (segment.ghosts).eq x.0 y.0 && (pointwise ◌==◌ x.1.0 y.1.0 && pointwise (value.ghosts).eq x.1.1.0 y.1.1.0)),
  ((λ x y. pointwise (segment.ghosts).eq x.0 y.0 && pointwise (value.ghosts).eq x.1.0 y.1.0), tt),
)

node_at : (a : Node) → DecidesAt node_type.the_parts each_node (node_type.as_values a)
node_at (Cell at name arguments) = λ y.
    more_fields _ _ (at, (name, (arguments, tt))) y (addr_decides at y.0)
    (more_fields _ _ (name, (arguments, tt)) y.1 (text_decides name y.1.0) (last_field (arguments, tt) y.1.1 (items_decides arguments y.1.1.0)))
node_at (Item at arguments) = λ y.
    more_fields _ _ (at, (arguments, tt)) y (addr_decides at y.0) (last_field (arguments, tt) y.1 (items_decides arguments y.1.0))

pub node_decides : (a b : Node) → Decides ((node.ghosts).eq a b) (a ≡ b)
node_decides a b = enum_decides node_type.enum each_node (node_type.as_values a) (node_at a) a b (node_type.enum.eta a)

abbrev each_read : Each Bool read_type.the_parts
each_read = (
  (λ x y. (node.ghosts).eq x.0 y.0),
  (
    (λ x y. pointwise (segment.ghosts).eq x.0 y.0 && pointwise ◌==◌ x.1.0 y.1.0),
    ((λ x y. pointwise ◌==◌ x.0 y.0), ((λ x y. pointwise ◌==◌ x.0 y.0), tt)),
  ),
)

read_at : (a : Read) → DecidesAt read_type.the_parts each_read (read_type.as_values a)
read_at (reads.Node n) = λ y. last_field (n, tt) y (node_decides n y.0)
read_at (reads.Ref at name) = λ y. more_fields _ _ (at, (name, tt)) y (addr_decides at y.0) (last_field (name, tt) y.1 (text_decides name y.1.0))
read_at (reads.Global name) = λ y. last_field (name, tt) y (text_decides name y.0)
read_at (reads.Table name) = λ y. last_field (name, tt) y (text_decides name y.0)

pub read_decides : (a b : Read) → Decides ((read.ghosts).eq a b) (a ≡ b)
read_decides a b = enum_decides read_type.enum each_read (read_type.as_values a) (read_at a) a b (read_type.enum.eta a)

binding_decides : (x y : List ℕ × Value) → Decides (pointwise ◌==◌ x.0 y.0 && (value.ghosts).eq x.1 y.1) (x ≡ y)
binding_decides x y = more_fields _ _ x y (text_decides x.0 y.0) (value_decides x.1 y.1)

abbrev SameParts : Namespace → Namespace → Type 0
SameParts a b = (a.at ≡ b.at) × ((a.source ≡ b.source) × (a.overlay ≡ b.overlay))

pub namespace_decides : (a b : Namespace) → Decides ((namespace.ghosts).eq a b) (a ≡ b)
namespace_decides a b =
    let there : SameParts a b → a ≡ b = λ p i. record { at = p.0 i; source = p.1.0 i; overlay = p.1.1 i } in
    let back : a ≡ b → SameParts a b = λ e. (ap (λ n. n.at) e, (ap (λ n. n.source) e, ap (λ n. n.overlay) e)) in
    decides_as there back (both_decide _ _ (addr_decides a.at b.at) (both_decide _ _ (path_decides a.source b.source) (pointwise_decides binding_decides a.overlay b.overlay)))

abbrev each_refusal : Each Bool refusal_type.the_parts
each_refusal = (
  (λ x y. true),
  (
    (λ x y. true),
    (
      (λ x y. (fault.ghosts).eq x.0 y.0 && ((node.ghosts).eq x.1.0 y.1.0 && (x.1.1.0 == y.1.1.0))),
      ((λ x y. pointwise (node.ghosts).eq x.0 y.0), ((λ x y. (node.ghosts).eq x.0 y.0), ((λ x y. true), ((λ x y. true), tt)))),
    ),
  ),
)

refusal_at : (a : EvalRefusal) → DecidesAt refusal_type.the_parts each_refusal (refusal_type.as_values a)
refusal_at refusals.NoSuch = λ y. (λ t. refl, λ e. refl)
refusal_at refusals.WrongCount = λ y. (λ t. refl, λ e. refl)
refusal_at (refusals.Fault kind node line) = λ y.
    more_fields _ _ (kind, (node, (line, tt))) y (fault_decides kind y.0)
    (more_fields _ _ (node, (line, tt)) y.1 (node_decides node y.1.0) (last_field (line, tt) y.1.1 (unsigned_Decides line y.1.1.0)))
refusal_at (refusals.Ring nodes) = λ y. last_field (nodes, tt) y (pointwise_decides node_decides nodes y.0)
refusal_at (refusals.TooDeep node) = λ y. last_field (node, tt) y (node_decides node y.0)
refusal_at refusals.Full = λ y. (λ t. refl, λ e. refl)
refusal_at refusals.NoMemory = λ y. (λ t. refl, λ e. refl)

pub refusal_decides : (a b : EvalRefusal) → Decides ((refusal.ghosts).eq a b) (a ≡ b)
refusal_decides a b = enum_decides refusal_type.enum each_refusal (refusal_type.as_values a) (refusal_at a) a b (refusal_type.enum.eta a)
