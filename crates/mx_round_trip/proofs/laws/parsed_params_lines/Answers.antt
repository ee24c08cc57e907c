use Rattle.mx_round_trip.proofs.ParsedLines.{params_have_lines}
use Rattle.mx_round_trip.proofs.laws.parsed_params_lines.Goals as goal

pub returns : goal.returns
returns c = λ source p body given some. params_have_lines c.line_laws.ensures.heights c.line_laws.ensures.statements c.line_laws.ensures.arms c.line_laws.ensures.lines source p body given.0 some
