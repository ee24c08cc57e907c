use Rattle.mx_code_law.proofs.Trees.{expr_fits, callees_fit}
use Rattle.mx_code_law.proofs.Statements.{stmt_fits}
use Rattle.mx_code_law.proofs.Formulas.{cells_do, items_do, sizes_are}
use Rattle.mx_code_law.proofs.laws.laws.Goals as goal

pub returns-clause-expressions : goal.returns-clause-expressions
returns-clause-expressions c = expr_fits

pub returns-clause-callees : goal.returns-clause-callees
returns-clause-callees c = callees_fit

pub returns-clause-statements : goal.returns-clause-statements
returns-clause-statements c = stmt_fits

pub returns-clause-cells : goal.returns-clause-cells
returns-clause-cells c = cells_do

pub returns-clause-items : goal.returns-clause-items
returns-clause-items c = items_do

pub returns-clause-sizes : goal.returns-clause-sizes
returns-clause-sizes c = sizes_are
