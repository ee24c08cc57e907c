use Rattle.std.proofs.Common.{take}
use Rattle.mx_c3.specs.InOrder.{IsInOrder}
use Rattle.mx_c3.proofs.lists.BaseLists.is_in_order.Given as goal

abbrev pub invariant-loop-place : goal.invariant-loop-place
invariant-loop-place l = IsInOrder 0 (take l.place l.self)
