use Rattle.std.proofs.Common.{◌≡◌, replicate, None}
use Rattle.mx_c3.proofs.linearise.no_orders.Given as goal

abbrev pub invariant-loop : goal.invariant-loop
invariant-loop l = l.orders.items ≡ replicate l.counter None
