use Rattle.std.proofs.Common.{take}
use Rattle.mx_c3.specs.InOrder.{AllBelow}
use Rattle.mx_c3.proofs.lists.are_below.Given as goal

abbrev pub invariant-loop-space : goal.invariant-loop-space
invariant-loop-space l = AllBelow l.bound (take l.space-index l.spaces)
