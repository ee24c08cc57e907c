use Rattle.std.proofs.Common.{take}
use Rattle.mx_c3.specs.InOrder.{AllBelow}
use Rattle.mx_paths.proofs.orders.are_before.Given as goal

abbrev pub invariant-loop-base : goal.invariant-loop-base
invariant-loop-base l = AllBelow l.space.0 (take l.base-index l.bases)
