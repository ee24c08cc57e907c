use Rattle.mx_round_trip.proofs.Formulas.{formula_back}
use Rattle.mx_round_trip.proofs.laws.formula_round_trip.Goals as goal

pub returns : goal.returns
returns c = λ source f given. (formula_back source f given.0 given.1.short, given.1)
