use Rattle.mx_round_trip.proofs.Proper.{spelled_proper}
use Rattle.mx_round_trip.proofs.laws.nodes_are_proper.Goals as goal

pub returns : goal.returns
returns c = spelled_proper
