use Rattle.std.specs.Cmp.{signed_Decides}
use Rattle.std.specs.Cmp.Lexicographic.{pointwise_decides}
use Rattle.mx_value.proofs.Enums.{text_decides}
use Rattle.mx_value.proofs.Sames.{value_decides, segment_decides, cells_decide}
use Rattle.mx_value.proofs.NodeSames.{addr_decides, items_decides, path_decides, node_decides, read_decides, namespace_decides, fault_decides, refusal_decides}
use Rattle.mx_value.proofs.equality.equality_laws.Goals as goal

pub returns : goal.returns
returns c = record {
  fixed = signed_Decides;
  label = text_decides;
  value = value_decides;
  segment = segment_decides;
  cells = cells_decide;
  items = items_decides;
  address = addr_decides;
  path = path_decides;
  node = node_decides;
  read = read_decides;
  reads = pointwise_decides read_decides;
  namespace = namespace_decides;
  fault = fault_decides;
  refusal = refusal_decides;
}
