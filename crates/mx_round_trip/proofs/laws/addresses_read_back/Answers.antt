use Rattle.mx_round_trip.proofs.Addresses.{address_back}
use Rattle.mx_round_trip.proofs.laws.addresses_read_back.Goals as goal

pub returns : goal.returns
returns c = address_back
