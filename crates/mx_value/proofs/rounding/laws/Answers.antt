use Rattle.mx_value.proofs.RoundingLaws.{half_even-only, floor-only}
use Rattle.mx_value.proofs.rounding.laws.Goals as goal

pub returns-clause-one_half_even : goal.returns-clause-one_half_even
returns-clause-one_half_even c = half_even-only

pub returns-clause-one_floor : goal.returns-clause-one_floor
returns-clause-one_floor c = floor-only
