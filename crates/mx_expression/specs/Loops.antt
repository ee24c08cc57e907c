-- How many loops of an expression stand in one another.
use Rattle.std.specs.Prelude.{ℕ, ◌+◌, max, List, [], ◌∷◌, Option, None, Some}
use Rattle.mx_syntax.specs.declared.expr.Expr.{Expr, fold-Expr}
use Rattle.mx_syntax.specs.declared.expr.Args.TheOpen.{Expr-F, Arm-F, Comparison-F, SumPart-F, ProductPart-F, PowerPart-F, Trailer-F, Args-F}
use Rattle.mx_syntax.specs.declared.expr.Arm.{Arm, fold-Arm}
use Rattle.mx_syntax.specs.declared.expr.Comparison.{Comparison, fold-Comparison}
use Rattle.mx_syntax.specs.declared.expr.SumPart.{SumPart, fold-SumPart}
use Rattle.mx_syntax.specs.declared.expr.ProductPart.{ProductPart, fold-ProductPart}
use Rattle.mx_syntax.specs.declared.expr.PowerPart.{PowerPart, fold-PowerPart}
use Rattle.mx_syntax.specs.declared.expr.Trailer.{Trailer, fold-Trailer}
use Rattle.mx_syntax.specs.declared.expr.Args.{Args, fold-Args}

-- the greatest of the parts, or 0 of none
abbrev pub greatest : List ℕ → ℕ
greatest [] = 0
greatest (n ∷ ns) = max n (greatest ns)

abbrev pub or_none : Option ℕ → ℕ
or_none None = 0
or_none (Some n) = n

abbrev pub expr_step : Expr-F ℕ ℕ ℕ ℕ ℕ ℕ ℕ ℕ → ℕ
expr_step (Expr-F.Lit v) = 0
expr_step (Expr-F.Name n) = 0
expr_step (Expr-F.Tuple parts) = greatest parts
expr_step (Expr-F.Cond arms last) = max (greatest arms) last
expr_step (Expr-F.Or parts) = greatest parts
expr_step (Expr-F.And parts) = greatest parts
expr_step (Expr-F.Not count of) = of
expr_step (Expr-F.Compare first rest) = max first (greatest rest)
expr_step (Expr-F.Sum first rest) = max first (greatest rest)
expr_step (Expr-F.Product first rest) = max first (greatest rest)
expr_step (Expr-F.Signed signs of) = of
expr_step (Expr-F.Power first rest) = max first (greatest rest)
expr_step (Expr-F.Post of trailers) = max of (greatest trailers)

abbrev pub arm_step : Arm-F ℕ ℕ ℕ ℕ ℕ ℕ ℕ ℕ → ℕ
arm_step arm = max arm.value arm.test

abbrev pub comparison_step : Comparison-F ℕ ℕ ℕ ℕ ℕ ℕ ℕ ℕ → ℕ
comparison_step (Comparison-F.Op op part) = part
comparison_step Comparison-F.IsNone = 0
comparison_step Comparison-F.IsNotNone = 0

abbrev pub sum_step : SumPart-F ℕ ℕ ℕ ℕ ℕ ℕ ℕ ℕ → ℕ
sum_step part = part.of

abbrev pub product_step : ProductPart-F ℕ ℕ ℕ ℕ ℕ ℕ ℕ ℕ → ℕ
product_step part = part.of

abbrev pub power_step : PowerPart-F ℕ ℕ ℕ ℕ ℕ ℕ ℕ ℕ → ℕ
power_step part = part.of

abbrev pub trailer_step : Trailer-F ℕ ℕ ℕ ℕ ℕ ℕ ℕ ℕ → ℕ
trailer_step (Trailer-F.Call arguments) = arguments
trailer_step (Trailer-F.Index parts) = greatest parts
trailer_step (Trailer-F.Attr name) = 0

-- A generator is a loop round its element and its test. What it goes over is outside it.
abbrev pub args_step : Args-F ℕ ℕ ℕ ℕ ℕ ℕ ℕ ℕ → ℕ
args_step (Args-F.List parts) = greatest parts
args_step (Args-F.Gen element name over test) = max over (max element (or_none test) + 1)

abbrev pub loops_in : Expr → ℕ
loops_in = fold-Expr ℕ ℕ ℕ ℕ ℕ ℕ ℕ ℕ args_step comparison_step expr_step trailer_step arm_step power_step product_step sum_step

abbrev pub arm_loops : Arm → ℕ
arm_loops = fold-Arm ℕ ℕ ℕ ℕ ℕ ℕ ℕ ℕ args_step comparison_step expr_step trailer_step arm_step power_step product_step sum_step

abbrev pub comparison_loops : Comparison → ℕ
comparison_loops = fold-Comparison ℕ ℕ ℕ ℕ ℕ ℕ ℕ ℕ args_step comparison_step expr_step trailer_step arm_step power_step product_step sum_step

abbrev pub sum_part_loops : SumPart → ℕ
sum_part_loops = fold-SumPart ℕ ℕ ℕ ℕ ℕ ℕ ℕ ℕ args_step comparison_step expr_step trailer_step arm_step power_step product_step sum_step

abbrev pub product_part_loops : ProductPart → ℕ
product_part_loops = fold-ProductPart ℕ ℕ ℕ ℕ ℕ ℕ ℕ ℕ args_step comparison_step expr_step trailer_step arm_step power_step product_step sum_step

abbrev pub power_part_loops : PowerPart → ℕ
power_part_loops = fold-PowerPart ℕ ℕ ℕ ℕ ℕ ℕ ℕ ℕ args_step comparison_step expr_step trailer_step arm_step power_step product_step sum_step

abbrev pub trailer_loops : Trailer → ℕ
trailer_loops = fold-Trailer ℕ ℕ ℕ ℕ ℕ ℕ ℕ ℕ args_step comparison_step expr_step trailer_step arm_step power_step product_step sum_step

abbrev pub args_loops : Args → ℕ
args_loops = fold-Args ℕ ℕ ℕ ℕ ℕ ℕ ℕ ℕ args_step comparison_step expr_step trailer_step arm_step power_step product_step sum_step
