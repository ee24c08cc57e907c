-- The lines of statements, formulas and parameter lists.
use Rattle.std.specs.Prelude.{ℕ, Bool, true, false, if◌then◌else◌, List, [], ◌∷◌, ◌++◌, Option, None, Some, map, replicate, codes}
use Rattle.mx_syntax.specs.declared.expr.Expr.{Expr}
use Rattle.mx_syntax.specs.declared.stmt.Stmt.{Stmt, fold-Stmt}
use Rattle.mx_syntax.specs.declared.stmt.IfArm.{IfArm, fold-IfArm}
use Rattle.mx_syntax.specs.declared.stmt.Stmt.TheOpen.{Stmt-F, IfArm-F}
use Rattle.mx_syntax.specs.declared.stmt.ArithOp.{ArithOp}
use Rattle.mx_syntax.specs.declared.stmt.ArithOp.TheVariants as arith
use Rattle.mx_syntax.specs.declared.stmt.ItemEntry.{ItemEntry}
use Rattle.mx_syntax.specs.declared.stmt.ItemEntry.TheVariants as entry
use Rattle.mx_syntax.specs.declared.stmt.Param.{Param}
use Rattle.mx_syntax.specs.declared.stmt.Formula.{Formula}
use Rattle.mx_syntax.specs.declared.stmt.Params.{Params}
use Rattle.mx_value.specs.declared.value.Value.{Value}
use Rattle.mx_syntax.specs.Lists.{flat}
use Rattle.mx_print.specs.Texts.{Text, commas}
use Rattle.mx_print.specs.Values.{value_text, quoted}
use Rattle.mx_print.specs.Expressions.{at, printed}

-- an expression where any form may stand
abbrev pub whole : Expr → Text
whole e = at 0 (printed e)

abbrev pub arith_text : ArithOp → Text
arith_text arith.Add = codes " += "
arith_text arith.Sub = codes " -= "
arith_text arith.Mul = codes " *= "

abbrev pub ref_text : Text × Expr → Text
ref_text (name, e) = quoted name ++ (codes ": " ++ whole e)

abbrev pub entry_text : ItemEntry → Text
entry_text (entry.Refs refs) = codes "\"refs\": {" ++ (commas (map ref_text refs) ++ codes "}")
entry_text (entry.Base e) = codes "\"base\": " ++ whole e

-- the display that says what an item is
abbrev pub display_text : List ItemEntry → Text
display_text entries = codes "{" ++ (commas (map entry_text entries) ++ codes "}")

abbrev pub return_text : Option Expr → Text
return_text None = codes "return"
return_text (Some e) = codes "return " ++ whole e

-- the lines of the statements of a block, one level further in
abbrev pub block : List (List Text) → List Text
block bodies = map (λ (line : Text). codes "    " ++ line) (flat bodies)

-- with a word in front of the first line
abbrev pub front : Text → List Text → List Text
front word [] = []
front word (line ∷ lines) = (word ++ line) ∷ lines

-- the first arm's word, and that of the others
abbrev pub arm_word : Bool → Text
arm_word first = if first then codes "if " else codes "elif "

abbrev pub if_lines : List (List Text) → List Text
if_lines [] = []
if_lines (arm ∷ arms) = front (arm_word true) arm ++ flat (map (front (arm_word false)) arms)

abbrev pub else_lines : Option (List (List Text)) → List Text
else_lines None = []
else_lines (Some bodies) = codes "else:" ∷ block bodies

abbrev pub assign_text : Text → Expr → Text
assign_text name e = name ++ (codes " = " ++ whole e)

abbrev pub change_text : Text → ArithOp → Expr → Text
change_text name op e = name ++ (arith_text op ++ whole e)

abbrev pub for_text : Text → Expr → Text
for_text name over = codes "for " ++ (name ++ (codes " in " ++ (whole over ++ codes ":")))

abbrev pub stmt_step : Stmt-F (List Text) (List Text) → List Text
stmt_step Stmt-F.Pass = codes "pass" ∷ []
stmt_step (Stmt-F.Return e) = return_text e ∷ []
stmt_step (Stmt-F.ReturnItem entries) = (codes "return " ++ display_text entries) ∷ []
stmt_step (Stmt-F.Assign name e) = assign_text name e ∷ []
stmt_step (Stmt-F.Change name op e) = change_text name op e ∷ []
stmt_step (Stmt-F.If arms other) = if_lines arms ++ else_lines other
stmt_step (Stmt-F.For name over body) = for_text name over ∷ block body

abbrev pub arm_step : IfArm-F (List Text) (List Text) → List Text
arm_step arm = (whole arm.test ++ codes ":") ∷ block arm.body

-- the lines of a statement, as it stands at the margin
abbrev pub stmt_lines : Stmt → List Text
stmt_lines = fold-Stmt (List Text) (List Text) stmt_step arm_step

-- the lines of an arm of an `if`, without its first word
abbrev pub arm_lines : IfArm → List Text
arm_lines = fold-IfArm (List Text) (List Text) stmt_step arm_step

abbrev pub body_lines : List Stmt → List Text
body_lines body = flat (map stmt_lines body)

abbrev pub default_text : Option Value → Text
default_text None = []
default_text (Some v) = codes "=" ++ value_text v

abbrev pub param_text : Param → Text
param_text param = param.name ++ default_text param.default

abbrev pub params_text : List Param → Text
params_text params = codes "(" ++ (commas (map param_text params) ++ codes ")")

abbrev pub returned_step : Stmt-F (Option Text) (Unit {0}) → Option Text
returned_step Stmt-F.Pass = None
returned_step (Stmt-F.Return None) = None
returned_step (Stmt-F.Return (Some e)) = Some (whole e)
returned_step (Stmt-F.ReturnItem entries) = Some (display_text entries)
returned_step (Stmt-F.Assign name e) = None
returned_step (Stmt-F.Change name op e) = None
returned_step (Stmt-F.If arms other) = None
returned_step (Stmt-F.For name over body) = None

abbrev pub any_arm : IfArm-F (Option Text) (Unit {0}) → Unit {0}
any_arm arm = tt

-- what the statement returns, where it returns an expression or a display
abbrev pub returned : Stmt → Option Text
returned = fold-Stmt (Option Text) (Unit {0}) returned_step any_arm

-- what stands behind the `=` of a formula of one line
abbrev pub one_line : List (Option Text) → Option Text
one_line (r ∷ []) = r
one_line rs = None

-- the end of a formula of one line
abbrev pub rest_of_line : Text → Text
rest_of_line t = codes " = " ++ (t ++ codes "\n")

abbrev pub lines_by : List Param → List Stmt → Option Text → List Text
lines_by params body (Some t) = (params_text params ++ (codes " = " ++ t)) ∷ []
lines_by params body None = (params_text params ++ codes ":") ∷ block (map stmt_lines body)

-- one line where the body only returns an expression or a display, else the head and the statements
abbrev pub formula_lines : List Param → List Stmt → List Text
formula_lines params body = lines_by params body (one_line (map returned body))

abbrev pub params_lines : List Param → Option (List Stmt) → List Text
params_lines params None = params_text params ∷ []
params_lines params (Some body) = formula_lines params body

-- so many levels in
abbrev pub margin : ℕ → Text
margin depth = flat (replicate depth (codes "    "))

abbrev pub line_text : ℕ → Text → Text
line_text depth line = margin depth ++ (line ++ codes "\n")

-- lines that stand so many levels in, each ended by a line feed
abbrev pub lines_text : ℕ → List Text → Text
lines_text depth lines = flat (map (line_text depth) lines)

abbrev pub print : Formula → Text
print formula = lines_text 0 (formula_lines formula.params formula.body)

abbrev pub print_params : Params → Text
print_params params = lines_text 0 (params_lines params.params params.body)
