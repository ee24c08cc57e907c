use Rattle.std.proofs.Common.{◌≡◌, take}
use Rattle.mx_c3.specs.Known.{orders_of}
use Rattle.mx_c3.proofs.linearise.lists_of.Given as goal

abbrev pub invariant-loop-base : goal.invariant-loop-base
invariant-loop-base l = l.lists.items ≡ orders_of l.orders (take l.base-index l.base-items)
