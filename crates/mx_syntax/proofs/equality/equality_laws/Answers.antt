use Rattle.mx_syntax.proofs.TreeSames.{expr_decides}
use Rattle.mx_syntax.proofs.BodySames.{stmt_decides, param_decides, formula_decides, params_decide}
use Rattle.mx_syntax.proofs.equality.equality_laws.Goals as goal

pub returns : goal.returns
returns c = record {
  expr = expr_decides;
  stmt = stmt_decides;
  param = param_decides;
  formula = formula_decides;
  params = params_decide;
}
