-- What `==` says of labels, values, nodes and the rest.
use Rattle.std.specs.Prelude.{ℕ, ℤ, List, Bool}
use Rattle.mx_value.specs.declared.value.Value.{Value}
use Rattle.mx_value.specs.declared.value.Segment.{Segment}
use Rattle.mx_value.specs.declared.value.CellsAt.{CellsAt}
use Rattle.mx_value.specs.declared.node.Node.{Node}
use Rattle.mx_value.specs.declared.read.Read.{Read}
use Rattle.mx_value.specs.declared.namespace.Namespace.{Namespace}
use Rattle.mx_value.specs.declared.fault.FaultKind.{FaultKind}
use Rattle.mx_value.specs.declared.refusal.EvalRefusal.{EvalRefusal}
use Rattle.mx_value.specs.contracts.fixed.FixedPartialEq.TheImpl as fixed
use Rattle.mx_value.specs.contracts.label.LabelPartialEq.TheImpl as label
use Rattle.mx_value.specs.contracts.value.ValuePartialEq.TheImpl as value
use Rattle.mx_value.specs.contracts.value.SegmentPartialEq.TheImpl as segment
use Rattle.mx_value.specs.contracts.value.CellsAtPartialEq.TheImpl as cells
use Rattle.mx_value.specs.contracts.node.NodePartialEq.TheImpl as node
use Rattle.mx_value.specs.contracts.read.ReadPartialEq.TheImpl as read
use Rattle.mx_value.specs.contracts.namespace.NamespacePartialEq.TheImpl as namespace
use Rattle.mx_value.specs.contracts.fault.FaultKindPartialEq.TheImpl as fault
use Rattle.mx_value.specs.contracts.refusal.EvalRefusalPartialEq.TheImpl as refusal

-- `==` of each type, as contracts of std's collections name it

abbrev pub fixed_eq : ℤ → ℤ → Bool
fixed_eq = (fixed.ghosts).eq

abbrev pub label_eq : List ℕ → List ℕ → Bool
label_eq = (label.ghosts).eq

abbrev pub value_eq : Value → Value → Bool
value_eq = (value.ghosts).eq

abbrev pub segment_eq : Segment → Segment → Bool
segment_eq = (segment.ghosts).eq

abbrev pub cells_eq : CellsAt → CellsAt → Bool
cells_eq = (cells.ghosts).eq

abbrev pub node_eq : Node → Node → Bool
node_eq = (node.ghosts).eq

abbrev pub read_eq : Read → Read → Bool
read_eq = (read.ghosts).eq

abbrev pub namespace_eq : Namespace → Namespace → Bool
namespace_eq = (namespace.ghosts).eq

abbrev pub fault_eq : FaultKind → FaultKind → Bool
fault_eq = (fault.ghosts).eq

abbrev pub refusal_eq : EvalRefusal → EvalRefusal → Bool
refusal_eq = (refusal.ghosts).eq
