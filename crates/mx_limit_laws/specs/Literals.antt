-- The literals of formulas and parameter lists: those of expressions, and the defaults of parameters.
use Rattle.std.specs.Prelude.{List, [], ◌∷◌, ◌++◌, map, Option, Some, None}
use Rattle.mx_value.specs.declared.label.Label.{Label}
use Rattle.mx_value.specs.declared.value.Value.{Value}
use Rattle.mx_syntax.specs.Lists.{flat}
use Rattle.mx_syntax.specs.Binding.{defaults}
use Rattle.mx_syntax.specs.declared.expr.Expr.{Expr, fold-Expr}
use Rattle.mx_syntax.specs.declared.expr.Args.{Args, fold-Args}
use Rattle.mx_syntax.specs.declared.expr.Comparison.{Comparison, fold-Comparison}
use Rattle.mx_syntax.specs.declared.expr.Trailer.{Trailer, fold-Trailer}
use Rattle.mx_syntax.specs.declared.expr.Arm.{Arm, fold-Arm}
use Rattle.mx_syntax.specs.declared.expr.PowerPart.{PowerPart, fold-PowerPart}
use Rattle.mx_syntax.specs.declared.expr.ProductPart.{ProductPart, fold-ProductPart}
use Rattle.mx_syntax.specs.declared.expr.SumPart.{SumPart, fold-SumPart}
use Rattle.mx_syntax.specs.declared.expr.Args.TheOpen.{Args-F, Comparison-F, Expr-F, Trailer-F, Arm-F, PowerPart-F, ProductPart-F, SumPart-F}
use Rattle.mx_syntax.specs.declared.stmt.Stmt.{Stmt, fold-Stmt}
use Rattle.mx_syntax.specs.declared.stmt.IfArm.{IfArm, fold-IfArm}
use Rattle.mx_syntax.specs.declared.stmt.Stmt.TheOpen.{Stmt-F, IfArm-F}
use Rattle.mx_syntax.specs.declared.stmt.ItemEntry.{ItemEntry}
use Rattle.mx_syntax.specs.declared.stmt.ItemEntry.TheVariants as entry
use Rattle.mx_syntax.specs.declared.stmt.Formula.{Formula}
use Rattle.mx_syntax.specs.declared.stmt.Params.{Params}

abbrev pub Values : Type 0
Values = List Value

abbrev pub or_none : Option Values → Values
or_none None = []
or_none (Some values) = values

-- ---- expressions, each part as its literals

abbrev pub Former : Type 1
Former = Type 0 → Type 0 → Type 0 → Type 0 → Type 0 → Type 0 → Type 0 → Type 0 → Type 0

abbrev pub Layer : Former → Type 0
Layer F = F Values Values Values Values Values Values Values Values

-- a fold over expressions, at these
abbrev pub folded : {F : Former} → ((A B C D E G H I : Type 0) → F A B C D E G H I) → Layer F
folded f = f Values Values Values Values Values Values Values Values

abbrev pub args_step : Layer Args-F → Values
args_step (Args-F.List items) = flat items
args_step (Args-F.Gen element name over test) = element ++ (over ++ or_none test)

abbrev pub comparison_step : Layer Comparison-F → Values
comparison_step (Comparison-F.Op op right) = right
comparison_step Comparison-F.IsNone = []
comparison_step Comparison-F.IsNotNone = []

abbrev pub expr_step : Layer Expr-F → Values
expr_step (Expr-F.Lit v) = v ∷ []
expr_step (Expr-F.Name name) = []
expr_step (Expr-F.Tuple items) = flat items
expr_step (Expr-F.Cond arms last) = flat arms ++ last
expr_step (Expr-F.Or parts) = flat parts
expr_step (Expr-F.And parts) = flat parts
expr_step (Expr-F.Not count part) = part
expr_step (Expr-F.Compare first rest) = first ++ flat rest
expr_step (Expr-F.Sum first rest) = first ++ flat rest
expr_step (Expr-F.Product first rest) = first ++ flat rest
expr_step (Expr-F.Signed signs part) = part
expr_step (Expr-F.Power first rest) = first ++ flat rest
expr_step (Expr-F.Post first more) = first ++ flat more

abbrev pub trailer_step : Layer Trailer-F → Values
trailer_step (Trailer-F.Call args) = args
trailer_step (Trailer-F.Index items) = flat items
trailer_step (Trailer-F.Attr name) = []

abbrev pub arm_step : Layer Arm-F → Values
arm_step arm = arm.value ++ arm.test

abbrev pub power_step : Layer PowerPart-F → Values
power_step part = part.of

abbrev pub product_step : Layer ProductPart-F → Values
product_step part = part.of

abbrev pub sum_step : Layer SumPart-F → Values
sum_step part = part.of

abbrev pub literals_of : Expr → Values
literals_of = folded fold-Expr args_step comparison_step expr_step trailer_step arm_step power_step product_step sum_step

abbrev pub args_literals : Args → Values
args_literals = folded fold-Args args_step comparison_step expr_step trailer_step arm_step power_step product_step sum_step

abbrev pub comparison_literals : Comparison → Values
comparison_literals = folded fold-Comparison args_step comparison_step expr_step trailer_step arm_step power_step product_step sum_step

abbrev pub trailer_literals : Trailer → Values
trailer_literals = folded fold-Trailer args_step comparison_step expr_step trailer_step arm_step power_step product_step sum_step

abbrev pub arm_literals : Arm → Values
arm_literals = folded fold-Arm args_step comparison_step expr_step trailer_step arm_step power_step product_step sum_step

abbrev pub power_literals : PowerPart → Values
power_literals = folded fold-PowerPart args_step comparison_step expr_step trailer_step arm_step power_step product_step sum_step

abbrev pub product_literals : ProductPart → Values
product_literals = folded fold-ProductPart args_step comparison_step expr_step trailer_step arm_step power_step product_step sum_step

abbrev pub sum_literals : SumPart → Values
sum_literals = folded fold-SumPart args_step comparison_step expr_step trailer_step arm_step power_step product_step sum_step

-- ---- statements

abbrev pub named_literals : Label × Expr → Values
named_literals ref = literals_of ref.1

abbrev pub entry_literals : ItemEntry → Values
entry_literals (entry.Refs refs) = flat (map named_literals refs)
entry_literals (entry.Base e) = literals_of e

abbrev pub other_literals : Option (List Values) → Values
other_literals None = []
other_literals (Some body) = flat body

abbrev pub stmt_step : Stmt-F Values Values → Values
stmt_step Stmt-F.Pass = []
stmt_step (Stmt-F.Return None) = []
stmt_step (Stmt-F.Return (Some e)) = literals_of e
stmt_step (Stmt-F.ReturnItem entries) = flat (map entry_literals entries)
stmt_step (Stmt-F.Assign name e) = literals_of e
stmt_step (Stmt-F.Change name op e) = literals_of e
stmt_step (Stmt-F.If arms other) = flat arms ++ other_literals other
stmt_step (Stmt-F.For name over body) = literals_of over ++ flat body

abbrev pub if_arm_step : IfArm-F Values Values → Values
if_arm_step arm = literals_of arm.test ++ flat arm.body

abbrev pub stmt_literals : Stmt → Values
stmt_literals = fold-Stmt Values Values stmt_step if_arm_step

abbrev pub if_arm_literals : IfArm → Values
if_arm_literals = fold-IfArm Values Values stmt_step if_arm_step

abbrev pub body_literals : List Stmt → Values
body_literals body = flat (map stmt_literals body)

-- ---- formulas and parameter lists

abbrev pub formula_literals : Formula → Values
formula_literals f = defaults f.params ++ body_literals f.body

abbrev pub or_no_body : Option (List Stmt) → Values
or_no_body None = []
or_no_body (Some body) = body_literals body

abbrev pub params_literals : Params → Values
params_literals ps = defaults ps.params ++ or_no_body ps.body
