-- What `==` says of the trees of formulas.
use Rattle.std.specs.Prelude.{Bool}
use Rattle.mx_syntax.specs.declared.expr.Expr.{Expr}
use Rattle.mx_syntax.specs.declared.stmt.Stmt.{Stmt}
use Rattle.mx_syntax.specs.declared.stmt.Param.{Param}
use Rattle.mx_syntax.specs.declared.stmt.Formula.{Formula}
use Rattle.mx_syntax.specs.declared.stmt.Params.{Params}
use Rattle.mx_syntax.specs.contracts.expr.ExprPartialEq.TheImpl as expr
use Rattle.mx_syntax.specs.contracts.stmt.StmtPartialEq.TheImpl as stmt
use Rattle.mx_syntax.specs.contracts.stmt.ParamPartialEq.TheImpl as param
use Rattle.mx_syntax.specs.contracts.stmt.FormulaPartialEq.TheImpl as formula
use Rattle.mx_syntax.specs.contracts.stmt.ParamsPartialEq.TheImpl as params

-- `==` of each type

abbrev pub expr_eq : Expr → Expr → Bool
expr_eq = (expr.ghosts).eq

abbrev pub stmt_eq : Stmt → Stmt → Bool
stmt_eq = (stmt.ghosts).eq

abbrev pub param_eq : Param → Param → Bool
param_eq = (param.ghosts).eq

abbrev pub formula_eq : Formula → Formula → Bool
formula_eq = (formula.ghosts).eq

abbrev pub params_eq : Params → Params → Bool
params_eq = (params.ghosts).eq
