use Rattle.std.proofs.Common.{◌≡◌}
use Rattle.mx_plain.specs.Months.{first}
use Rattle.mx_plain.specs.Base.{year_at}
use Rattle.mx_plain.proofs.base.years.Given as goal

abbrev pub invariant-loop-y : goal.invariant-loop-y
invariant-loop-y l = l.years.items ≡ first l.y (year_at l.mort l.disc)
