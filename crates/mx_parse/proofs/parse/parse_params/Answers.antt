use Rattle.mx_parse.proofs.Languages.{space_parameters}
use Rattle.mx_parse.specs.Formulas.{params_text}
use Rattle.mx_grammar.proofs.Limited.{only_within}
use Rattle.mx_parse.specs.FormulaLimits.{params_limits}
use Rattle.mx_parse.proofs.parse.parse_params.Goals as goal

pub returns-clause-only : goal.returns-clause-only
returns-clause-only c = only_within params_text _ space_parameters params_limits c.args.source.now c.read_params.result c.read_params.ensures
