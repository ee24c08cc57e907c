use Rattle.mx_expression.proofs.ExpressionRules.{expressions}
use Rattle.mx_expression.specs.Expressions.{expression_text}
use Rattle.mx_grammar.proofs.Limited.{only_within}
use Rattle.mx_parse.specs.FormulaLimits.{expression_limits}
use Rattle.mx_parse.proofs.parse.parse_expr.Goals as goal

pub returns-clause-only : goal.returns-clause-only
returns-clause-only c = only_within expression_text _ expressions expression_limits c.args.source.now c.read_expression.result c.read_expression.ensures
