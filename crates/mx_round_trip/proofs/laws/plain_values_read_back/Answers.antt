use Rattle.mx_round_trip.proofs.PlainValues.{plain_values_read_back}
use Rattle.mx_round_trip.proofs.laws.plain_values_read_back.Goals as goal

pub returns : goal.returns
returns c = plain_values_read_back
