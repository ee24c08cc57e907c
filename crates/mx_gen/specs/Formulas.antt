-- The formulas of the generated model.
use Rattle.std.specs.Prelude.{ℕ, ℤ, pos, List, [], ◌∷◌, None, Some, codes}
use Rattle.mx_value.specs.declared.value.Value.TheVariants.{Int}
use Rattle.mx_syntax.specs.declared.expr.Expr.{Expr}
use Rattle.mx_syntax.specs.declared.expr.Expr.TheVariants as expr
use Rattle.mx_syntax.specs.declared.expr.Args.TheVariants as args
use Rattle.mx_syntax.specs.declared.expr.Trailer.TheVariants as trailer
use Rattle.mx_syntax.specs.declared.expr.Comparison.TheVariants as comparison
use Rattle.mx_syntax.specs.declared.expr.CmpOp.TheVariants.{Le}
use Rattle.mx_syntax.specs.declared.expr.SumOp.{SumOp}
use Rattle.mx_syntax.specs.declared.expr.SumOp.TheVariants.{Plus, Minus}
use Rattle.mx_syntax.specs.declared.expr.ProductOp.{ProductOp}
use Rattle.mx_syntax.specs.declared.expr.ProductOp.TheVariants.{Times, Rem}
use Rattle.mx_syntax.specs.declared.expr.Arm.{roll-Arm}
use Rattle.mx_syntax.specs.declared.expr.SumPart.{SumPart, roll-SumPart}
use Rattle.mx_syntax.specs.declared.expr.ProductPart.{ProductPart, roll-ProductPart}
use Rattle.mx_syntax.specs.declared.stmt.Stmt.TheVariants as stmt
use Rattle.mx_syntax.specs.declared.stmt.Formula.{Formula}

abbrev pub whole : ℤ → Expr
whole n = expr.Lit (Int n)

abbrev pub name : List ℕ → Expr
name n = expr.Name n

abbrev pub sum_part : SumOp → Expr → SumPart
sum_part op e = roll-SumPart (record { op = op; of = e })

abbrev pub product_part : ProductOp → Expr → ProductPart
product_part op e = roll-ProductPart (record { op = op; of = e })

-- `NAME(e)`
abbrev pub call : List ℕ → Expr → Expr
call n e = expr.Post (name n) (trailer.Call (args.List (e ∷ [])) ∷ [])

-- a sum of two parts
abbrev pub sum : Expr → SumOp → Expr → Expr
sum first op e = expr.Sum first (sum_part op e ∷ [])

-- `t - 1`
abbrev pub month_before : Expr
month_before = sum (name (codes "t")) Minus (whole (pos 1))

-- `f(t - 1) + g(t - 1)`
abbrev pub both_before : Expr
both_before = sum (call (codes "f") month_before) Plus (call (codes "g") month_before)

-- `t <= 0`
abbrev pub at_start : Expr
at_start = expr.Compare (name (codes "t")) (comparison.Op Le (whole (pos 0)) ∷ [])

-- `(t) = e`
abbrev pub of_t : Expr → Formula
of_t e = record { params = (record { name = codes "t"; default = None }) ∷ []; body = stmt.Return (Some e) ∷ [] }

-- `(t) = C if t <= 0 else f(t - 1) + g(t - 1)`
abbrev pub f_formula : ℤ → Formula
f_formula c = of_t (expr.Cond (roll-Arm (record { value = whole c; test = at_start }) ∷ []) both_before)

-- `(t) = f(t) * M % 1009`
abbrev pub g_formula : ℤ → Formula
g_formula m = of_t (expr.Product (call (codes "f") (name (codes "t"))) (product_part Times (whole m) ∷ product_part Rem (whole (pos 1009)) ∷ []))
