use Rattle.std.proofs.Common.{◌≡◌, take, Some}
use Rattle.mx_paths.specs.Orders.{all_known}
use Rattle.mx_paths.proofs.orders.all_known.Given as goal

abbrev pub invariant-loop-space : goal.invariant-loop-space
invariant-loop-space l = all_known l.orders (take l.space-index l.spaces) ≡ Some l.known.items
