use Rattle.mx_round_trip.proofs.Formulas.{formula_back}
use Rattle.mx_round_trip.proofs.laws.formulas_read_back.Goals as goal

pub returns : goal.returns
returns c = formula_back
