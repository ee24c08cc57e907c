use Rattle.mx_grammar.proofs.Texts.{one_tree}
use Rattle.mx_expression.proofs.ExpressionRules.{expressions}
use Rattle.mx_parse.proofs.laws.one_expr.Goals as goal

pub returns : goal.returns
returns c = one_tree _ _ expressions
