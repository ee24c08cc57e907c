use Rattle.std.proofs.Common.{◌≡◌, ◌≤◌, map, drop, length}
use Rattle.mx_ops.specs.Order.{order, in_turn}
use Rattle.mx_ops.proofs.order.+order.Given as goal

abbrev pub invariant-compare_items-loop-i : goal.invariant-compare_items-loop-i
invariant-compare_items-loop-i l = record {
  left : in_turn (map order l.xs) l.ys ≡ in_turn (map order (drop l.i l.xs)) (drop l.i l.ys);
  within : l.i ≤ length l.ys;
}
