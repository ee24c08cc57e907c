use Rattle.mx_parse.proofs.Languages.{formulas}
use Rattle.mx_parse.specs.Formulas.{formula_text}
use Rattle.mx_grammar.proofs.Limited.{only_within}
use Rattle.mx_parse.specs.FormulaLimits.{formula_limits}
use Rattle.mx_parse.proofs.parse.parse_formula.Goals as goal

pub returns-clause-only : goal.returns-clause-only
returns-clause-only c = only_within formula_text _ formulas formula_limits c.args.source.now c.read_formula.result c.read_formula.ensures
