use Rattle.mx_round_trip.proofs.SpaceParameters.{params_back}
use Rattle.mx_round_trip.proofs.laws.params_read_back.Goals as goal

pub returns : goal.returns
returns c = params_back
