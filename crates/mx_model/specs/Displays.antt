-- Whether a formula returns an item display.
use Rattle.std.specs.Prelude.{Bool, true, false, List, Option, Some, None, ◌||◌}
use Rattle.std.specs.List.{list_any}
use Rattle.mx_syntax.specs.declared.stmt.Stmt.{Stmt, fold-Stmt}
use Rattle.mx_syntax.specs.declared.stmt.IfArm.{IfArm, fold-IfArm}
use Rattle.mx_syntax.specs.declared.stmt.Stmt.TheOpen.{Stmt-F, IfArm-F}
use Rattle.mx_syntax.specs.declared.stmt.Formula.{Formula}

abbrev pub any : List Bool → Bool
any found = list_any (λ b. b) found

abbrev pub any_other : Option (List Bool) → Bool
any_other (Some found) = any found
any_other None = false

abbrev pub stmt_step : Stmt-F Bool Bool → Bool
stmt_step Stmt-F.Pass = false
stmt_step (Stmt-F.Return e) = false
stmt_step (Stmt-F.ReturnItem entries) = true
stmt_step (Stmt-F.Assign name e) = false
stmt_step (Stmt-F.Change name op e) = false
stmt_step (Stmt-F.If arms other) = any arms || any_other other
stmt_step (Stmt-F.For name over body) = any body

abbrev pub arm_step : IfArm-F Bool Bool → Bool
arm_step arm = any arm.body

-- it is a return of an item display, or has one within it
abbrev pub has_display : Stmt → Bool
has_display = fold-Stmt Bool Bool stmt_step arm_step

-- an arm has one
abbrev pub arm_display : IfArm → Bool
arm_display = fold-IfArm Bool Bool stmt_step arm_step

abbrev pub shows_item : Formula → Bool
shows_item formula = list_any has_display formula.body
