use Rattle.std.proofs.Common.{◌≡◌, ◌++◌, take}
use Rattle.mx_ops.proofs.tuple.append.Given as goal

abbrev pub invariant-loop-y : goal.invariant-loop-y
invariant-loop-y l = l.items ≡ l.fn.xs ++ take l.y-index l.y-items
