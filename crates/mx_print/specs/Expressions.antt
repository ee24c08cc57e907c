-- The one text of an expression, with parentheses exactly where the grammar does not allow a form in its place.
use Rattle.std.specs.Prelude.{ℕ, Bool, true, false, ◌==◌, ◌&&◌, nat_lt, if◌then◌else◌, List, [], ◌∷◌, ◌++◌, Option, None, Some, map, replicate, codes}
use Rattle.mx_value.specs.declared.value.Value.{Value}
use Rattle.mx_value.specs.declared.value.Value.TheVariants as made
use Rattle.mx_syntax.specs.declared.expr.Expr.{Expr, fold-Expr}
use Rattle.mx_syntax.specs.declared.expr.Args.TheOpen.{Expr-F, Arm-F, Comparison-F, SumPart-F, ProductPart-F, PowerPart-F, Trailer-F, Args-F}
use Rattle.mx_syntax.specs.declared.expr.Arm.{Arm, fold-Arm}
use Rattle.mx_syntax.specs.declared.expr.Comparison.{Comparison, fold-Comparison}
use Rattle.mx_syntax.specs.declared.expr.SumPart.{SumPart, fold-SumPart}
use Rattle.mx_syntax.specs.declared.expr.ProductPart.{ProductPart, fold-ProductPart}
use Rattle.mx_syntax.specs.declared.expr.PowerPart.{PowerPart, fold-PowerPart}
use Rattle.mx_syntax.specs.declared.expr.Trailer.{Trailer, fold-Trailer}
use Rattle.mx_syntax.specs.declared.expr.Args.{Args, fold-Args}
use Rattle.mx_syntax.specs.declared.expr.CmpOp.{CmpOp}
use Rattle.mx_syntax.specs.declared.expr.CmpOp.TheVariants as cmp
use Rattle.mx_syntax.specs.declared.expr.SumOp.{SumOp}
use Rattle.mx_syntax.specs.declared.expr.SumOp.TheVariants as sum
use Rattle.mx_syntax.specs.declared.expr.ProductOp.{ProductOp}
use Rattle.mx_syntax.specs.declared.expr.ProductOp.TheVariants as product
use Rattle.mx_syntax.specs.declared.expr.Sign.{Sign}
use Rattle.mx_syntax.specs.declared.expr.Sign.TheVariants as sign
use Rattle.mx_syntax.specs.Lists.{flat}
use Rattle.mx_print.specs.Texts.{Text, separated, commas}
use Rattle.mx_print.specs.Values.{value_text, tuple_text}

-- A text, and the rule of the grammar that its form belongs to: 0 for a whole expression, 1 `or`,
-- 2 `and`, 3 `not`, 4 comparisons, 5 sums, 6 products, 7 signs, 8 powers, 9 calls, subscripts and
-- attributes, 10 atoms. Where a rule is asked for, a form of it or of a later one may stand.
pub record Piece : Type 0 where
  pub level : ℕ
  pub number : Bool
  pub text : Text

abbrev pub form : ℕ → Text → Piece
form l t = record { level = l; number = false; text = t }

-- where the grammar asks for the rule `least`
abbrev pub at : ℕ → Piece → Text
at least p = if nat_lt p.level least then codes "(" ++ (p.text ++ codes ")") else p.text

abbrev pub all_at : ℕ → List Piece → List Text
all_at least ps = map (at least) ps

abbrev pub is_number : Value → Bool
is_number (made.Int n) = true
is_number (made.Fix x) = true
is_number other = false

abbrev pub cmp_text : CmpOp → Text
cmp_text cmp.Lt = codes "<"
cmp_text cmp.Le = codes "<="
cmp_text cmp.Gt = codes ">"
cmp_text cmp.Ge = codes ">="
cmp_text cmp.Eq = codes "=="
cmp_text cmp.Ne = codes "!="
cmp_text cmp.In = codes "in"
cmp_text cmp.NotIn = codes "not in"

abbrev pub sum_text : SumOp → Text
sum_text sum.Plus = codes "+"
sum_text sum.Minus = codes "-"

abbrev pub product_text : ProductOp → Text
product_text product.Times = codes "*"
product_text product.Over = codes "/"
product_text product.Floor = codes "//"
product_text product.Rem = codes "%"

abbrev pub sign_byte : Sign → ℕ
sign_byte sign.Plus = 43
sign_byte sign.Minus = 45

-- the text in spaces
abbrev pub spaced : Text → Text
spaced t = codes " " ++ (t ++ codes " ")

-- the first text begins with the dot of an attribute
abbrev pub begins_with_dot : List Text → Bool
begins_with_dot [] = false
begins_with_dot ([] ∷ ts) = false
begins_with_dot ((b ∷ bs) ∷ ts) = b == 46

-- a number that stands directly before the dot of an attribute has a space behind it
abbrev pub gap : Piece → List Text → Text
gap p trailers = if p.number && begins_with_dot trailers then codes " " else []

abbrev pub piece : Expr-F Text Text Piece Text Text Text Text Text → Piece
piece (Expr-F.Lit v) = record { level = 10; number = is_number v; text = value_text v }
piece (Expr-F.Name n) = form 10 n
piece (Expr-F.Tuple ps) = form 10 (tuple_text (all_at 0 ps))
piece (Expr-F.Cond arms last) = form 0 (flat arms ++ at 1 last)
piece (Expr-F.Or ps) = form 1 (separated (codes " or ") (all_at 2 ps))
piece (Expr-F.And ps) = form 2 (separated (codes " and ") (all_at 3 ps))
piece (Expr-F.Not count of) = form 3 (flat (replicate count (codes "not ")) ++ at 4 of)
piece (Expr-F.Compare first rest) = form 4 (at 5 first ++ flat rest)
piece (Expr-F.Sum first rest) = form 5 (at 6 first ++ flat rest)
piece (Expr-F.Product first rest) = form 6 (at 7 first ++ flat rest)
piece (Expr-F.Signed signs of) = form 7 (map sign_byte signs ++ at 8 of)
piece (Expr-F.Power first rest) = form 8 (at 9 first ++ flat rest)
piece (Expr-F.Post of trailers) = form 9 (at 10 of ++ (gap of trailers ++ flat trailers))

abbrev pub arm_step : Arm-F Text Text Piece Text Text Text Text Text → Text
arm_step arm = at 1 arm.value ++ (codes " if " ++ (at 1 arm.test ++ codes " else "))

abbrev pub comparison_step : Comparison-F Text Text Piece Text Text Text Text Text → Text
comparison_step (Comparison-F.Op op p) = spaced (cmp_text op) ++ at 5 p
comparison_step Comparison-F.IsNone = codes " is None"
comparison_step Comparison-F.IsNotNone = codes " is not None"

abbrev pub sum_step : SumPart-F Text Text Piece Text Text Text Text Text → Text
sum_step part = spaced (sum_text part.op) ++ at 6 part.of

abbrev pub product_step : ProductPart-F Text Text Piece Text Text Text Text Text → Text
product_step part = spaced (product_text part.op) ++ at 7 part.of

abbrev pub power_step : PowerPart-F Text Text Piece Text Text Text Text Text → Text
power_step part = codes " ** " ++ (map sign_byte part.signs ++ at 9 part.of)

abbrev pub trailer_step : Trailer-F Text Text Piece Text Text Text Text Text → Text
trailer_step (Trailer-F.Call arguments) = codes "(" ++ (arguments ++ codes ")")
trailer_step (Trailer-F.Index ps) = codes "[" ++ (commas (all_at 0 ps) ++ codes "]")
trailer_step (Trailer-F.Attr name) = codes "." ++ name

abbrev pub test_text : Option Piece → Text
test_text None = []
test_text (Some p) = codes " if " ++ at 1 p

abbrev pub args_step : Args-F Text Text Piece Text Text Text Text Text → Text
args_step (Args-F.List ps) = commas (all_at 0 ps)
args_step (Args-F.Gen element name over test) = at 0 element ++ (codes " for " ++ (name ++ (codes " in " ++ (at 1 over ++ test_text test))))

abbrev pub printed : Expr → Piece
printed = fold-Expr Text Text Piece Text Text Text Text Text args_step comparison_step piece trailer_step arm_step power_step product_step sum_step

abbrev pub arm_text : Arm → Text
arm_text = fold-Arm Text Text Piece Text Text Text Text Text args_step comparison_step piece trailer_step arm_step power_step product_step sum_step

abbrev pub comparison_text : Comparison → Text
comparison_text = fold-Comparison Text Text Piece Text Text Text Text Text args_step comparison_step piece trailer_step arm_step power_step product_step sum_step

abbrev pub sum_part_text : SumPart → Text
sum_part_text = fold-SumPart Text Text Piece Text Text Text Text Text args_step comparison_step piece trailer_step arm_step power_step product_step sum_step

abbrev pub product_part_text : ProductPart → Text
product_part_text = fold-ProductPart Text Text Piece Text Text Text Text Text args_step comparison_step piece trailer_step arm_step power_step product_step sum_step

abbrev pub power_part_text : PowerPart → Text
power_part_text = fold-PowerPart Text Text Piece Text Text Text Text Text args_step comparison_step piece trailer_step arm_step power_step product_step sum_step

abbrev pub trailer_text : Trailer → Text
trailer_text = fold-Trailer Text Text Piece Text Text Text Text Text args_step comparison_step piece trailer_step arm_step power_step product_step sum_step

abbrev pub args_text : Args → Text
args_text = fold-Args Text Text Piece Text Text Text Text Text args_step comparison_step piece trailer_step arm_step power_step product_step sum_step

abbrev pub generator_test_text : Option Expr → Text
generator_test_text None = []
generator_test_text (Some e) = codes " if " ++ at 1 (printed e)
