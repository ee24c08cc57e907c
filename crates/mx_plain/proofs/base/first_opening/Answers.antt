use Rattle.std.proofs.Common.{rules}
use Rattle.mx_plain.specs.Base.{pols_if, pols_maturity, inflation_factor, disc_factor}
use Rattle.mx_plain.proofs.base.first_opening.Goals as goal

pub returns : goal.returns
unfolding pols_if pols_maturity inflation_factor disc_factor
returns c = search rules
