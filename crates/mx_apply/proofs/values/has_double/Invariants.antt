use Rattle.std.proofs.Common.{◌≡◌, drop}
use Rattle.mx_model.specs.Refused.{has_double}
use Rattle.mx_apply.proofs.values.has_double.Given as goal

abbrev pub invariant-loop-i : goal.invariant-loop-i
invariant-loop-i l = has_double l.paths ≡ has_double (drop l.i l.paths)
