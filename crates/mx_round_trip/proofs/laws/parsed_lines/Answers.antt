use Rattle.mx_round_trip.proofs.ParsedLines.{formula_has_lines}
use Rattle.mx_round_trip.proofs.laws.parsed_lines.Goals as goal

pub returns : goal.returns
returns c = λ source f given. formula_has_lines c.line_laws.ensures.heights c.line_laws.ensures.statements c.line_laws.ensures.arms c.line_laws.ensures.lines source f given.0
