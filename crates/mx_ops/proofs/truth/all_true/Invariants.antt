use Rattle.std.proofs.Common.{◌≡◌, drop}
use Rattle.mx_ops.specs.Truth as spec
use Rattle.mx_ops.proofs.truth.all_true.Given as goal

abbrev pub invariant-loop-value : goal.invariant-loop-value
invariant-loop-value l = spec.all_true l.values ≡ spec.all_true (drop l.value-index l.values)
