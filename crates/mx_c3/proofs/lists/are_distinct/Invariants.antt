use Rattle.std.proofs.Common.{take}
use Rattle.mx_c3.specs.Lists.{Distinct}
use Rattle.mx_c3.proofs.lists.are_distinct.Given as goal

abbrev pub invariant-loop-place : goal.invariant-loop-place
invariant-loop-place l = Distinct (take l.place l.spaces)
