use Rattle.std.proofs.Common.{◌≡◌, drop}
use Rattle.mx_ops.specs.Truth as spec
use Rattle.mx_ops.proofs.truth.any_true.Given as goal

abbrev pub invariant-loop-value : goal.invariant-loop-value
invariant-loop-value l = spec.any_true l.values ≡ spec.any_true (drop l.value-index l.values)
