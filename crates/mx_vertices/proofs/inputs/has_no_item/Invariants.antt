use Rattle.std.proofs.Common.{◌≡◌, drop}
use Rattle.mx_vertices.specs.Inputs.{has_no_item}
use Rattle.mx_vertices.proofs.inputs.has_no_item.Given as goal

abbrev pub invariant-loop-segment : goal.invariant-loop-segment
invariant-loop-segment l = has_no_item (drop l.segment-index l.address) ≡ has_no_item l.address
