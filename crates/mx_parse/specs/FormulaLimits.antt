-- How many loops of a formula stand in one another, and what formulas, parameters of spaces and expressions are limited by.
use Rattle.std.specs.Prelude.{ℕ, ◌+◌, max, List, [], ◌∷◌, Option, Some, None, map}
use Rattle.mx_syntax.specs.declared.expr.Expr.{Expr}
use Rattle.mx_syntax.specs.declared.stmt.Stmt.{Stmt, fold-Stmt}
use Rattle.mx_syntax.specs.declared.stmt.IfArm.{IfArm, fold-IfArm}
use Rattle.mx_syntax.specs.declared.stmt.Stmt.TheOpen.{Stmt-F, IfArm-F}
use Rattle.mx_syntax.specs.declared.stmt.ItemEntry.{ItemEntry}
use Rattle.mx_syntax.specs.declared.stmt.ItemEntry.TheVariants as entry
use Rattle.mx_syntax.specs.declared.stmt.Formula.{Formula}
use Rattle.mx_syntax.specs.declared.stmt.Params.{Params}
use Rattle.mx_print.specs.Statements.{print, print_params}
use Rattle.mx_grammar.specs.Limits.{Limits}
use Rattle.mx_expression.specs.Loops.{greatest, or_none, loops_in}

abbrev pub ref_loops : List ℕ × Expr → ℕ
ref_loops r = loops_in r.1

abbrev pub entry_loops : ItemEntry → ℕ
entry_loops (entry.Refs refs) = greatest (map ref_loops refs)
entry_loops (entry.Base x) = loops_in x

abbrev pub value_loops : Option Expr → ℕ
value_loops None = 0
value_loops (Some x) = loops_in x

abbrev pub other_loops : Option (List ℕ) → ℕ
other_loops None = 0
other_loops (Some ns) = greatest ns

-- A `for` is a loop round its body. What it goes over is outside it.
abbrev pub stmt_step : Stmt-F ℕ ℕ → ℕ
stmt_step Stmt-F.Pass = 0
stmt_step (Stmt-F.Return value) = value_loops value
stmt_step (Stmt-F.ReturnItem entries) = greatest (map entry_loops entries)
stmt_step (Stmt-F.Assign name x) = loops_in x
stmt_step (Stmt-F.Change name op x) = loops_in x
stmt_step (Stmt-F.If arms other) = max (greatest arms) (other_loops other)
stmt_step (Stmt-F.For name over body) = max (loops_in over) (greatest body + 1)

abbrev pub if_arm_step : IfArm-F ℕ ℕ → ℕ
if_arm_step arm = max (loops_in arm.test) (greatest arm.body)

abbrev pub loops : Stmt → ℕ
loops = fold-Stmt ℕ ℕ stmt_step if_arm_step

abbrev pub if_arm_loops : IfArm → ℕ
if_arm_loops = fold-IfArm ℕ ℕ stmt_step if_arm_step

abbrev pub body_loops : List Stmt → ℕ
body_loops body = greatest (map loops body)

abbrev pub maybe_loops : Option (List Stmt) → ℕ
maybe_loops None = 0
maybe_loops (Some body) = body_loops body

-- ---- limits

abbrev pub formula_limits : Limits Formula
formula_limits = record { loops = λ formula. body_loops formula.body; printed = λ formula. Some (print formula) }

abbrev pub params_limits : Limits Params
params_limits = record { loops = λ params. maybe_loops params.body; printed = λ params. Some (print_params params) }

abbrev pub expression_limits : Limits Expr
expression_limits = record { loops = loops_in; printed = λ x. None }
