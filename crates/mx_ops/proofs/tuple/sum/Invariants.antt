use Rattle.std.proofs.Common.{◌≡◌, drop, pos, Ok}
use Rattle.mx_value.specs.declared.value.Value.TheVariants as made
use Rattle.mx_ops.specs.Builtins as spec
use Rattle.mx_ops.proofs.tuple.sum.Given as goal

abbrev pub invariant-loop-value : goal.invariant-loop-value
invariant-loop-value l = spec.sum_from (Ok (made.Int (pos 0))) l.values ≡ spec.sum_from (Ok l.total) (drop l.value-index l.values)
