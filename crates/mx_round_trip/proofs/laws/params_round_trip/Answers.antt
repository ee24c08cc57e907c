use Rattle.mx_round_trip.proofs.SpaceParameters.{params_back}
use Rattle.mx_round_trip.proofs.laws.params_round_trip.Goals as goal

pub returns : goal.returns
returns c = λ source p given. (params_back source p given.0 given.1.short, given.1)
