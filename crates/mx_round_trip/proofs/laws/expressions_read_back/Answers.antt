use Rattle.mx_round_trip.proofs.ExpressionTexts.{expression_back}
use Rattle.mx_round_trip.proofs.laws.expressions_read_back.Goals as goal

pub returns : goal.returns
returns c = expression_back
