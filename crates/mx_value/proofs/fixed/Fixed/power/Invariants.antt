use Rattle.std.proofs.Common.{◌≡◌, Ok}
use Rattle.mx_value.specs.Fixed.{power_of}
use Rattle.mx_value.proofs.fixed.Fixed.power.Given as goal

abbrev pub invariant-loop-i : goal.invariant-loop-i
invariant-loop-i l = power_of l.self l.i ≡ Ok l.product
