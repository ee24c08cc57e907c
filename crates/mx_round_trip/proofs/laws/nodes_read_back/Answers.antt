use Rattle.mx_round_trip.proofs.Nodes.{node_back}
use Rattle.mx_round_trip.proofs.laws.nodes_read_back.Goals as goal

pub returns : goal.returns
returns c = node_back
