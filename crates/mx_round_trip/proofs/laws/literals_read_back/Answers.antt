use Rattle.mx_round_trip.proofs.Back.{literal_back}
use Rattle.mx_round_trip.proofs.laws.literals_read_back.Goals as goal

pub returns : goal.returns
returns c = literal_back
