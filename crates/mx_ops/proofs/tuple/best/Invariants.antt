use Rattle.std.proofs.Common.{◌≡◌, drop, Ok}
use Rattle.mx_ops.specs.Builtins as spec
use Rattle.mx_ops.specs.Order.{test_of}
use Rattle.mx_ops.proofs.tuple.best.Given as goal

abbrev pub invariant-loop-i : goal.invariant-loop-i
invariant-loop-i l = spec.best (test_of l.asked) l.values ≡ spec.best_of (test_of l.asked) (Ok l.best) (drop l.i l.values)
