use Rattle.std.proofs.Common.{◌≡◌, ℕ, ◌-◌, ◌<◌, ◌≤◌, ◌+◌, ◌^◌, pos, true, false}
use Rattle.mx_value.proofs.PowerLaws.{Halves}
use Rattle.mx_value.proofs.fixed.Fixed.greatest_base.Given as goal

abbrev pub invariant-halving : goal.invariant-halving
invariant-halving l = Halves l.self l.n l.low l.high

abbrev pub decreases-halving : goal.decreases-halving
decreases-halving l = l.high - l.low
