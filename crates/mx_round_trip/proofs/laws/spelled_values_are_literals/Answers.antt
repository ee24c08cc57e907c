use Rattle.mx_round_trip.proofs.PlainValues.{spelled_values_are_literals}
use Rattle.mx_round_trip.proofs.laws.spelled_values_are_literals.Goals as goal

pub returns : goal.returns
returns c = spelled_values_are_literals
