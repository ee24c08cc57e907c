-- How many lines of the printed text statements take: each statement has one, and each head of an arm, of an `else`
-- and of a loop.
use Rattle.std.specs.Prelude.{ℕ, ◌+◌, Bool, true, false, if◌then◌else◌, List, [], ◌∷◌, Option, None, Some, map}
use Rattle.std.specs.List.{sum}
use Rattle.mx_syntax.specs.declared.expr.Expr.{Expr}
use Rattle.mx_syntax.specs.declared.stmt.Stmt.{Stmt, fold-Stmt}
use Rattle.mx_syntax.specs.declared.stmt.IfArm.{IfArm, fold-IfArm}
use Rattle.mx_syntax.specs.declared.stmt.Stmt.TheOpen.{Stmt-F, IfArm-F}

abbrev pub else_height : Option (List ℕ) → ℕ
else_height None = 0
else_height (Some body) = sum body + 1

abbrev pub stmt_step : Stmt-F ℕ ℕ → ℕ
stmt_step Stmt-F.Pass = 1
stmt_step (Stmt-F.Return e) = 1
stmt_step (Stmt-F.ReturnItem entries) = 1
stmt_step (Stmt-F.Assign name e) = 1
stmt_step (Stmt-F.Change name op e) = 1
stmt_step (Stmt-F.If arms other) = sum arms + else_height other
stmt_step (Stmt-F.For name over body) = sum body + 1

abbrev pub arm_step : IfArm-F ℕ ℕ → ℕ
arm_step arm = sum arm.body + 1

-- how many lines a statement takes, with those within it
abbrev pub height : Stmt → ℕ
height = fold-Stmt ℕ ℕ stmt_step arm_step

abbrev pub arm_height : IfArm → ℕ
arm_height = fold-IfArm ℕ ℕ stmt_step arm_step

abbrev pub body_height : List Stmt → ℕ
body_height body = sum (map height body)

-- how many lines the arms of an `if` take
abbrev pub arms_height : List IfArm → ℕ
arms_height arms = sum (map arm_height arms)

abbrev pub returns_step : Stmt-F Bool (Unit {0}) → Bool
returns_step Stmt-F.Pass = false
returns_step (Stmt-F.Return None) = false
returns_step (Stmt-F.Return (Some e)) = true
returns_step (Stmt-F.ReturnItem entries) = true
returns_step (Stmt-F.Assign name e) = false
returns_step (Stmt-F.Change name op e) = false
returns_step (Stmt-F.If arms other) = false
returns_step (Stmt-F.For name over body) = false

abbrev pub any_arm : IfArm-F Bool (Unit {0}) → Unit {0}
any_arm arm = tt

-- the statement returns an expression or a display
abbrev pub returns : Stmt → Bool
returns = fold-Stmt Bool (Unit {0}) returns_step any_arm

-- the formula is printed on one line: its body only returns an expression or a display
abbrev pub is_of_one_line : List Stmt → Bool
is_of_one_line (stmt ∷ []) = returns stmt
is_of_one_line body = false

-- the line of the first statement: the head's own where the formula is of one line, else the next
abbrev pub first_line : List Stmt → ℕ
first_line body = if is_of_one_line body then 1 else 2
