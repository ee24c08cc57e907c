use Rattle.std.proofs.Common.{◌≡◌}
use Rattle.mx_ops.specs.Ranges as spec
use Rattle.mx_ops.proofs.range.numbers_from.Given as goal

abbrev pub invariant-loop-i : goal.invariant-loop-i
invariant-loop-i l = l.numbers ≡ spec.numbers_from l.from l.step l.i
