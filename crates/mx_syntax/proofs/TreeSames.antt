-- `==` on expressions says that the plain trees are the same.
use Rattle.std.proofs.Common.{◌≡◌, Bool, true, false, ◌&&◌, ◌==◌, List, Option, None, Some, map, refl, sym, ap, subst, inl, inr, rules}
use Rattle.std.specs.Bool.{Decides}
use Rattle.std.specs.Option.{option_eq, option_map}
use Rattle.std.specs.Cmp.{unsigned_Decides}
use Rattle.std.specs.Cmp.Lexicographic.{pointwise, pointwise_decides}
use denote.Enum.Declared.{Choice}
use denote.Enum.Compared.{Each, by}
use denote.Enum.Bare.{same_true, true_same}
use Rattle.mx_value.specs.contracts.value.ValuePartialEq.TheImpl as value
use Rattle.mx_value.proofs.Enums.{DecidesAt, enum_decides, items_decide, both_decide, decides_as, last_field, more_fields, text_decides}
use Rattle.mx_value.proofs.Sames.{value_decides}
use Rattle.mx_syntax.specs.declared.expr.Args.{Args}
use Rattle.mx_syntax.specs.declared.expr.Comparison.{Comparison}
use Rattle.mx_syntax.specs.declared.expr.Expr.{Expr}
use Rattle.mx_syntax.specs.declared.expr.Trailer.{Trailer}
use Rattle.mx_syntax.specs.declared.expr.Arm.{Arm, out-Arm}
use Rattle.mx_syntax.specs.declared.expr.PowerPart.{PowerPart, out-PowerPart}
use Rattle.mx_syntax.specs.declared.expr.ProductPart.{ProductPart, out-ProductPart}
use Rattle.mx_syntax.specs.declared.expr.SumPart.{SumPart, out-SumPart}
use Rattle.mx_syntax.specs.declared.expr.Args.TheVariants as made_args
use Rattle.mx_syntax.specs.declared.expr.Comparison.TheVariants as made_comparison
use Rattle.mx_syntax.specs.declared.expr.Expr.TheVariants as made_expr
use Rattle.mx_syntax.specs.declared.expr.Trailer.TheVariants as made_trailer
use Rattle.mx_syntax.specs.declared.expr.Args.TheOpen.{Args-F, Comparison-F, Expr-F, Trailer-F, Arm-F, PowerPart-F, ProductPart-F, SumPart-F}
use Rattle.mx_syntax.specs.declared.expr.Args.TheViews.{roll-Args, roll-Comparison, roll-Expr, roll-Trailer, roll-Arm, roll-PowerPart, roll-ProductPart, roll-SumPart}
use Rattle.mx_syntax.specs.declared.expr.Args.TheBlock.{member-Args, member-Comparison, member-Expr, member-Trailer, member-Arm, member-PowerPart, member-ProductPart, member-SumPart}
use Rattle.mx_syntax.specs.declared.expr.Args.TheFolds.{map-Args, map-Comparison, map-Expr, map-Trailer, map-Arm, map-PowerPart, map-ProductPart, map-SumPart, ind-Args, ind-Comparison, ind-Expr, ind-Trailer, ind-Arm, ind-PowerPart, ind-ProductPart, ind-SumPart}
use Rattle.mx_syntax.specs.contracts.expr.Args as args_type
use Rattle.mx_syntax.specs.contracts.expr.ArgsPartialEq.TheImpl as args
use Rattle.mx_syntax.specs.contracts.expr.ArgsPartialEq.TheImpl.Laws as args_laws
use Rattle.mx_syntax.specs.contracts.expr.Comparison as comparison_type
use Rattle.mx_syntax.specs.contracts.expr.ComparisonPartialEq.TheImpl as comparison
use Rattle.mx_syntax.specs.contracts.expr.ComparisonPartialEq.TheImpl.Laws as comparison_laws
use Rattle.mx_syntax.specs.contracts.expr.Expr as expr_type
use Rattle.mx_syntax.specs.contracts.expr.ExprPartialEq.TheImpl as expr
use Rattle.mx_syntax.specs.contracts.expr.ExprPartialEq.TheImpl.Laws as expr_laws
use Rattle.mx_syntax.specs.contracts.expr.Trailer as trailer_type
use Rattle.mx_syntax.specs.contracts.expr.TrailerPartialEq.TheImpl as trailer
use Rattle.mx_syntax.specs.contracts.expr.TrailerPartialEq.TheImpl.Laws as trailer_laws
use Rattle.mx_syntax.specs.contracts.expr.ArmPartialEq.TheImpl as arm
use Rattle.mx_syntax.specs.contracts.expr.ArmPartialEq.TheImpl.Laws as arm_laws
use Rattle.mx_syntax.specs.contracts.expr.PowerPartPartialEq.TheImpl as power
use Rattle.mx_syntax.specs.contracts.expr.PowerPartPartialEq.TheImpl.Laws as power_laws
use Rattle.mx_syntax.specs.contracts.expr.ProductPartPartialEq.TheImpl as product
use Rattle.mx_syntax.specs.contracts.expr.ProductPartPartialEq.TheImpl.Laws as product_laws
use Rattle.mx_syntax.specs.contracts.expr.SumPartPartialEq.TheImpl as sum
use Rattle.mx_syntax.specs.contracts.expr.SumPartPartialEq.TheImpl.Laws as sum_laws
use Rattle.mx_syntax.specs.declared.expr.CmpOp.{CmpOp}
use Rattle.mx_syntax.specs.contracts.expr.CmpOp as cmp_type
use Rattle.mx_syntax.specs.contracts.expr.CmpOpPartialEq.TheImpl as cmp
use Rattle.mx_syntax.specs.declared.expr.SumOp.{SumOp}
use Rattle.mx_syntax.specs.contracts.expr.SumOp as sum_op_type
use Rattle.mx_syntax.specs.contracts.expr.SumOpPartialEq.TheImpl as sum_op
use Rattle.mx_syntax.specs.declared.expr.ProductOp.{ProductOp}
use Rattle.mx_syntax.specs.contracts.expr.ProductOp as product_op_type
use Rattle.mx_syntax.specs.contracts.expr.ProductOpPartialEq.TheImpl as product_op
use Rattle.mx_syntax.specs.declared.expr.Sign.{Sign}
use Rattle.mx_syntax.specs.contracts.expr.Sign as sign_type
use Rattle.mx_syntax.specs.contracts.expr.SignPartialEq.TheImpl as sign

pub cmp_decides : (a b : CmpOp) → Decides ((cmp.ghosts).eq a b) (a ≡ b)
cmp_decides a b = (same_true cmp_type.the_type (search rules) a b, true_same cmp_type.the_type a b)

pub sum_op_decides : (a b : SumOp) → Decides ((sum_op.ghosts).eq a b) (a ≡ b)
sum_op_decides a b = (same_true sum_op_type.the_type (search rules) a b, true_same sum_op_type.the_type a b)

pub product_op_decides : (a b : ProductOp) → Decides ((product_op.ghosts).eq a b) (a ≡ b)
product_op_decides a b = (same_true product_op_type.the_type (search rules) a b, true_same product_op_type.the_type a b)

pub sign_decides : (a b : Sign) → Decides ((sign.ghosts).eq a b) (a ≡ b)
sign_decides a b = (same_true sign_type.the_type (search rules) a b, true_same sign_type.the_type a b)

signs_decide : (xs ys : List Sign) → Decides (pointwise (sign.ghosts).eq xs ys) (xs ≡ ys)
signs_decide = pointwise_decides sign_decides

-- of what may be there
pub option_decides : {X : Type 0} (E : X → X → Bool) (x : Option ((x : X) × ((y : X) → Decides (E x y) (x ≡ y)))) (y : Option X) → Decides (option_eq E (option_map (λ e. e.0) x) y) (option_map (λ e. e.0) x ≡ y)
option_decides E None None = (λ t. refl, λ e. refl)
option_decides E None (Some y) = (λ t. cc, λ e. cc)
option_decides E (Some x) None = (λ t. cc, λ e. cc)
option_decides E (Some x) (Some y) = decides_as (λ e. ap Some e) (λ e. let same : x.0 ≡ y = cc in same) (x.1 y)

-- `==` decides about this one
abbrev OfArgs : Args → Type 0
OfArgs a = (b : Args) → Decides ((args.ghosts).eq a b) (a ≡ b)

-- `==` decides about this one
abbrev OfComparison : Comparison → Type 0
OfComparison a = (b : Comparison) → Decides ((comparison.ghosts).eq a b) (a ≡ b)

-- `==` decides about this one
abbrev OfExpr : Expr → Type 0
OfExpr a = (b : Expr) → Decides ((expr.ghosts).eq a b) (a ≡ b)

-- `==` decides about this one
abbrev OfTrailer : Trailer → Type 0
OfTrailer a = (b : Trailer) → Decides ((trailer.ghosts).eq a b) (a ≡ b)

-- `==` decides about this one
abbrev OfArm : Arm → Type 0
OfArm a = (b : Arm) → Decides ((arm.ghosts).eq a b) (a ≡ b)

-- `==` decides about this one
abbrev OfPowerPart : PowerPart → Type 0
OfPowerPart a = (b : PowerPart) → Decides ((power.ghosts).eq a b) (a ≡ b)

-- `==` decides about this one
abbrev OfProductPart : ProductPart → Type 0
OfProductPart a = (b : ProductPart) → Decides ((product.ghosts).eq a b) (a ≡ b)

-- `==` decides about this one
abbrev OfSumPart : SumPart → Type 0
OfSumPart a = (b : SumPart) → Decides ((sum.ghosts).eq a b) (a ≡ b)

args_choice : Args-F Args Comparison Expr Trailer Arm PowerPart ProductPart SumPart → Choice args_type.the_parts
args_choice (Args-F.List x0) = inl (x0, tt)
args_choice (Args-F.Gen x0 x1 x2 x3) = inr (inl (x0, (x1, (x2, (x3, tt)))))

args_made : (x : Args-F Args Comparison Expr Trailer Arm PowerPart ProductPart SumPart) → args_type.enum.make (args_choice x) ≡ roll-Args x
unfolding args_choice
args_made (Args-F.List x0) = sym (made_args.rolls-List x0)
args_made (Args-F.Gen x0 x1 x2 x3) = sym (made_args.rolls-Gen x0 x1 x2 x3)

abbrev each_args : Each Bool args_type.the_parts
each_args = ((λ x y. pointwise (args_laws.family member-Expr) x.0 y.0), ((λ x y. args_laws.family member-Expr x.0 y.0 && (pointwise ◌==◌ x.1.0 y.1.0 && (args_laws.family member-Expr x.1.1.0 y.1.1.0 && option_eq (args_laws.family member-Expr) x.1.1.1.0 y.1.1.1.0))), tt))

args_at : (y : Args-F ((a : Args) × OfArgs a) ((a : Comparison) × OfComparison a) ((a : Expr) × OfExpr a) ((a : Trailer) × OfTrailer a) ((a : Arm) × OfArm a) ((a : PowerPart) × OfPowerPart a) ((a : ProductPart) × OfProductPart a) ((a : SumPart) × OfSumPart a)) → DecidesAt args_type.the_parts each_args (args_choice (map-Args _ _ _ _ _ _ _ _ Args Comparison Expr Trailer Arm PowerPart ProductPart SumPart (λ e. e.0) (λ e. e.0) (λ e. e.0) (λ e. e.0) (λ e. e.0) (λ e. e.0) (λ e. e.0) (λ e. e.0) y))
unfolding args_choice
args_at (Args-F.List x0) = λ y. last_field _ y (items_decide (args_laws.family member-Expr) x0 y.0)
args_at (Args-F.Gen x0 x1 x2 None) = λ y. more_fields _ _ _ y (x0.1 y.0) (more_fields _ _ _ y.1 (text_decides x1 y.1.0) (more_fields _ _ _ y.1.1 (x2.1 y.1.1.0) (last_field _ y.1.1.1 (option_decides (args_laws.family member-Expr) None y.1.1.1.0))))
args_at (Args-F.Gen x0 x1 x2 (Some x3)) = λ y. more_fields _ _ _ y (x0.1 y.0) (more_fields _ _ _ y.1 (text_decides x1 y.1.0) (more_fields _ _ _ y.1.1 (x2.1 y.1.1.0) (last_field _ y.1.1.1 (option_decides (args_laws.family member-Expr) (Some x3) y.1.1.1.0))))

comparison_choice : Comparison-F Args Comparison Expr Trailer Arm PowerPart ProductPart SumPart → Choice comparison_type.the_parts
comparison_choice (Comparison-F.Op x0 x1) = inl (x0, (x1, tt))
comparison_choice Comparison-F.IsNone = inr (inl tt)
comparison_choice Comparison-F.IsNotNone = inr (inr (inl tt))

comparison_made : (x : Comparison-F Args Comparison Expr Trailer Arm PowerPart ProductPart SumPart) → comparison_type.enum.make (comparison_choice x) ≡ roll-Comparison x
unfolding comparison_choice
comparison_made (Comparison-F.Op x0 x1) = sym (made_comparison.rolls-Op x0 x1)
comparison_made Comparison-F.IsNone = sym made_comparison.rolls-IsNone
comparison_made Comparison-F.IsNotNone = sym made_comparison.rolls-IsNotNone

abbrev each_comparison : Each Bool comparison_type.the_parts
each_comparison = ((λ x y. (cmp.ghosts).eq x.0 y.0 && comparison_laws.family member-Expr x.1.0 y.1.0), ((λ x y. true), ((λ x y. true), tt)))

comparison_at : (y : Comparison-F ((a : Args) × OfArgs a) ((a : Comparison) × OfComparison a) ((a : Expr) × OfExpr a) ((a : Trailer) × OfTrailer a) ((a : Arm) × OfArm a) ((a : PowerPart) × OfPowerPart a) ((a : ProductPart) × OfProductPart a) ((a : SumPart) × OfSumPart a)) → DecidesAt comparison_type.the_parts each_comparison (comparison_choice (map-Comparison _ _ _ _ _ _ _ _ Args Comparison Expr Trailer Arm PowerPart ProductPart SumPart (λ e. e.0) (λ e. e.0) (λ e. e.0) (λ e. e.0) (λ e. e.0) (λ e. e.0) (λ e. e.0) (λ e. e.0) y))
unfolding comparison_choice
comparison_at (Comparison-F.Op x0 x1) = λ y. more_fields _ _ _ y (cmp_decides x0 y.0) (last_field _ y.1 (x1.1 y.1.0))
comparison_at Comparison-F.IsNone = λ y. (λ t. refl, λ e. refl)
comparison_at Comparison-F.IsNotNone = λ y. (λ t. refl, λ e. refl)

expr_choice : Expr-F Args Comparison Expr Trailer Arm PowerPart ProductPart SumPart → Choice expr_type.the_parts
expr_choice (Expr-F.Lit x0) = inl (x0, tt)
expr_choice (Expr-F.Name x0) = inr (inl (x0, tt))
expr_choice (Expr-F.Tuple x0) = inr (inr (inl (x0, tt)))
expr_choice (Expr-F.Cond x0 x1) = inr (inr (inr (inl (x0, (x1, tt)))))
expr_choice (Expr-F.Or x0) = inr (inr (inr (inr (inl (x0, tt)))))
expr_choice (Expr-F.And x0) = inr (inr (inr (inr (inr (inl (x0, tt))))))
expr_choice (Expr-F.Not x0 x1) = inr (inr (inr (inr (inr (inr (inl (x0, (x1, tt))))))))
expr_choice (Expr-F.Compare x0 x1) = inr (inr (inr (inr (inr (inr (inr (inl (x0, (x1, tt)))))))))
expr_choice (Expr-F.Sum x0 x1) = inr (inr (inr (inr (inr (inr (inr (inr (inl (x0, (x1, tt))))))))))
expr_choice (Expr-F.Product x0 x1) = inr (inr (inr (inr (inr (inr (inr (inr (inr (inl (x0, (x1, tt)))))))))))
expr_choice (Expr-F.Signed x0 x1) = inr (inr (inr (inr (inr (inr (inr (inr (inr (inr (inl (x0, (x1, tt))))))))))))
expr_choice (Expr-F.Power x0 x1) = inr (inr (inr (inr (inr (inr (inr (inr (inr (inr (inr (inl (x0, (x1, tt)))))))))))))
expr_choice (Expr-F.Post x0 x1) = inr (inr (inr (inr (inr (inr (inr (inr (inr (inr (inr (inr (inl (x0, (x1, tt))))))))))))))

expr_made : (x : Expr-F Args Comparison Expr Trailer Arm PowerPart ProductPart SumPart) → expr_type.enum.make (expr_choice x) ≡ roll-Expr x
unfolding expr_choice
expr_made (Expr-F.Lit x0) = sym (made_expr.rolls-Lit x0)
expr_made (Expr-F.Name x0) = sym (made_expr.rolls-Name x0)
expr_made (Expr-F.Tuple x0) = sym (made_expr.rolls-Tuple x0)
expr_made (Expr-F.Cond x0 x1) = sym (made_expr.rolls-Cond x0 x1)
expr_made (Expr-F.Or x0) = sym (made_expr.rolls-Or x0)
expr_made (Expr-F.And x0) = sym (made_expr.rolls-And x0)
expr_made (Expr-F.Not x0 x1) = sym (made_expr.rolls-Not x0 x1)
expr_made (Expr-F.Compare x0 x1) = sym (made_expr.rolls-Compare x0 x1)
expr_made (Expr-F.Sum x0 x1) = sym (made_expr.rolls-Sum x0 x1)
expr_made (Expr-F.Product x0 x1) = sym (made_expr.rolls-Product x0 x1)
expr_made (Expr-F.Signed x0 x1) = sym (made_expr.rolls-Signed x0 x1)
expr_made (Expr-F.Power x0 x1) = sym (made_expr.rolls-Power x0 x1)
expr_made (Expr-F.Post x0 x1) = sym (made_expr.rolls-Post x0 x1)

abbrev each_expr : Each Bool expr_type.the_parts
each_expr = ((λ x y. (value.ghosts).eq x.0 y.0), ((λ x y. pointwise ◌==◌ x.0 y.0), ((λ x y. pointwise (expr_laws.family member-Expr) x.0 y.0), ((λ x y. pointwise (expr_laws.family member-Arm) x.0 y.0 && expr_laws.family member-Expr x.1.0 y.1.0), ((λ x y. pointwise (expr_laws.family member-Expr) x.0 y.0), ((λ x y. pointwise (expr_laws.family member-Expr) x.0 y.0), ((λ x y. (x.0 == y.0) && expr_laws.family member-Expr x.1.0 y.1.0), ((λ x y. expr_laws.family member-Expr x.0 y.0 && pointwise (expr_laws.family member-Comparison) x.1.0 y.1.0), ((λ x y. expr_laws.family member-Expr x.0 y.0 && pointwise (expr_laws.family member-SumPart) x.1.0 y.1.0), ((λ x y. expr_laws.family member-Expr x.0 y.0 && pointwise (expr_laws.family member-ProductPart) x.1.0 y.1.0), ((λ x y. pointwise (sign.ghosts).eq x.0 y.0 && expr_laws.family member-Expr x.1.0 y.1.0), ((λ x y. expr_laws.family member-Expr x.0 y.0 && pointwise (expr_laws.family member-PowerPart) x.1.0 y.1.0), ((λ x y. expr_laws.family member-Expr x.0 y.0 && pointwise (expr_laws.family member-Trailer) x.1.0 y.1.0), tt)))))))))))))

expr_at : (y : Expr-F ((a : Args) × OfArgs a) ((a : Comparison) × OfComparison a) ((a : Expr) × OfExpr a) ((a : Trailer) × OfTrailer a) ((a : Arm) × OfArm a) ((a : PowerPart) × OfPowerPart a) ((a : ProductPart) × OfProductPart a) ((a : SumPart) × OfSumPart a)) → DecidesAt expr_type.the_parts each_expr (expr_choice (map-Expr _ _ _ _ _ _ _ _ Args Comparison Expr Trailer Arm PowerPart ProductPart SumPart (λ e. e.0) (λ e. e.0) (λ e. e.0) (λ e. e.0) (λ e. e.0) (λ e. e.0) (λ e. e.0) (λ e. e.0) y))
unfolding expr_choice
expr_at (Expr-F.Lit x0) = λ y. last_field _ y (value_decides x0 y.0)
expr_at (Expr-F.Name x0) = λ y. last_field _ y (text_decides x0 y.0)
expr_at (Expr-F.Tuple x0) = λ y. last_field _ y (items_decide (expr_laws.family member-Expr) x0 y.0)
expr_at (Expr-F.Cond x0 x1) = λ y. more_fields _ _ _ y (items_decide (expr_laws.family member-Arm) x0 y.0) (last_field _ y.1 (x1.1 y.1.0))
expr_at (Expr-F.Or x0) = λ y. last_field _ y (items_decide (expr_laws.family member-Expr) x0 y.0)
expr_at (Expr-F.And x0) = λ y. last_field _ y (items_decide (expr_laws.family member-Expr) x0 y.0)
expr_at (Expr-F.Not x0 x1) = λ y. more_fields _ _ _ y (unsigned_Decides x0 y.0) (last_field _ y.1 (x1.1 y.1.0))
expr_at (Expr-F.Compare x0 x1) = λ y. more_fields _ _ _ y (x0.1 y.0) (last_field _ y.1 (items_decide (expr_laws.family member-Comparison) x1 y.1.0))
expr_at (Expr-F.Sum x0 x1) = λ y. more_fields _ _ _ y (x0.1 y.0) (last_field _ y.1 (items_decide (expr_laws.family member-SumPart) x1 y.1.0))
expr_at (Expr-F.Product x0 x1) = λ y. more_fields _ _ _ y (x0.1 y.0) (last_field _ y.1 (items_decide (expr_laws.family member-ProductPart) x1 y.1.0))
expr_at (Expr-F.Signed x0 x1) = λ y. more_fields _ _ _ y (signs_decide x0 y.0) (last_field _ y.1 (x1.1 y.1.0))
expr_at (Expr-F.Power x0 x1) = λ y. more_fields _ _ _ y (x0.1 y.0) (last_field _ y.1 (items_decide (expr_laws.family member-PowerPart) x1 y.1.0))
expr_at (Expr-F.Post x0 x1) = λ y. more_fields _ _ _ y (x0.1 y.0) (last_field _ y.1 (items_decide (expr_laws.family member-Trailer) x1 y.1.0))

trailer_choice : Trailer-F Args Comparison Expr Trailer Arm PowerPart ProductPart SumPart → Choice trailer_type.the_parts
trailer_choice (Trailer-F.Call x0) = inl (x0, tt)
trailer_choice (Trailer-F.Index x0) = inr (inl (x0, tt))
trailer_choice (Trailer-F.Attr x0) = inr (inr (inl (x0, tt)))

trailer_made : (x : Trailer-F Args Comparison Expr Trailer Arm PowerPart ProductPart SumPart) → trailer_type.enum.make (trailer_choice x) ≡ roll-Trailer x
unfolding trailer_choice
trailer_made (Trailer-F.Call x0) = sym (made_trailer.rolls-Call x0)
trailer_made (Trailer-F.Index x0) = sym (made_trailer.rolls-Index x0)
trailer_made (Trailer-F.Attr x0) = sym (made_trailer.rolls-Attr x0)

abbrev each_trailer : Each Bool trailer_type.the_parts
each_trailer = ((λ x y. trailer_laws.family member-Args x.0 y.0), ((λ x y. pointwise (trailer_laws.family member-Expr) x.0 y.0), ((λ x y. pointwise ◌==◌ x.0 y.0), tt)))

trailer_at : (y : Trailer-F ((a : Args) × OfArgs a) ((a : Comparison) × OfComparison a) ((a : Expr) × OfExpr a) ((a : Trailer) × OfTrailer a) ((a : Arm) × OfArm a) ((a : PowerPart) × OfPowerPart a) ((a : ProductPart) × OfProductPart a) ((a : SumPart) × OfSumPart a)) → DecidesAt trailer_type.the_parts each_trailer (trailer_choice (map-Trailer _ _ _ _ _ _ _ _ Args Comparison Expr Trailer Arm PowerPart ProductPart SumPart (λ e. e.0) (λ e. e.0) (λ e. e.0) (λ e. e.0) (λ e. e.0) (λ e. e.0) (λ e. e.0) (λ e. e.0) y))
unfolding trailer_choice
trailer_at (Trailer-F.Call x0) = λ y. last_field _ y (x0.1 y.0)
trailer_at (Trailer-F.Index x0) = λ y. last_field _ y (items_decide (trailer_laws.family member-Expr) x0 y.0)
trailer_at (Trailer-F.Attr x0) = λ y. last_field _ y (text_decides x0 y.0)

arm_at : (y : Arm-F ((a : Args) × OfArgs a) ((a : Comparison) × OfComparison a) ((a : Expr) × OfExpr a) ((a : Trailer) × OfTrailer a) ((a : Arm) × OfArm a) ((a : PowerPart) × OfPowerPart a) ((a : ProductPart) × OfProductPart a) ((a : SumPart) × OfSumPart a)) (b : Arm) → Decides (arm_laws.unfolded (roll-Arm (map-Arm _ _ _ _ _ _ _ _ Args Comparison Expr Trailer Arm PowerPart ProductPart SumPart (λ e. e.0) (λ e. e.0) (λ e. e.0) (λ e. e.0) (λ e. e.0) (λ e. e.0) (λ e. e.0) (λ e. e.0) y)) b) (roll-Arm (map-Arm _ _ _ _ _ _ _ _ Args Comparison Expr Trailer Arm PowerPart ProductPart SumPart (λ e. e.0) (λ e. e.0) (λ e. e.0) (λ e. e.0) (λ e. e.0) (λ e. e.0) (λ e. e.0) (λ e. e.0) y) ≡ b)
arm_at y b = decides_as (λ p. λ i. roll-Arm (record { value = p.0 i; test = p.1 i })) (λ e. (ap (λ a. (out-Arm a).value) e, ap (λ a. (out-Arm a).test) e)) (both_decide _ _ (y.value.1 (out-Arm b).value) (y.test.1 (out-Arm b).test))

power_at : (y : PowerPart-F ((a : Args) × OfArgs a) ((a : Comparison) × OfComparison a) ((a : Expr) × OfExpr a) ((a : Trailer) × OfTrailer a) ((a : Arm) × OfArm a) ((a : PowerPart) × OfPowerPart a) ((a : ProductPart) × OfProductPart a) ((a : SumPart) × OfSumPart a)) (b : PowerPart) → Decides (power_laws.unfolded (roll-PowerPart (map-PowerPart _ _ _ _ _ _ _ _ Args Comparison Expr Trailer Arm PowerPart ProductPart SumPart (λ e. e.0) (λ e. e.0) (λ e. e.0) (λ e. e.0) (λ e. e.0) (λ e. e.0) (λ e. e.0) (λ e. e.0) y)) b) (roll-PowerPart (map-PowerPart _ _ _ _ _ _ _ _ Args Comparison Expr Trailer Arm PowerPart ProductPart SumPart (λ e. e.0) (λ e. e.0) (λ e. e.0) (λ e. e.0) (λ e. e.0) (λ e. e.0) (λ e. e.0) (λ e. e.0) y) ≡ b)
power_at y b = decides_as (λ p. λ i. roll-PowerPart (record { signs = p.0 i; of = p.1 i })) (λ e. (ap (λ a. (out-PowerPart a).signs) e, ap (λ a. (out-PowerPart a).of) e)) (both_decide _ _ (signs_decide y.signs (out-PowerPart b).signs) (y.of.1 (out-PowerPart b).of))

product_at : (y : ProductPart-F ((a : Args) × OfArgs a) ((a : Comparison) × OfComparison a) ((a : Expr) × OfExpr a) ((a : Trailer) × OfTrailer a) ((a : Arm) × OfArm a) ((a : PowerPart) × OfPowerPart a) ((a : ProductPart) × OfProductPart a) ((a : SumPart) × OfSumPart a)) (b : ProductPart) → Decides (product_laws.unfolded (roll-ProductPart (map-ProductPart _ _ _ _ _ _ _ _ Args Comparison Expr Trailer Arm PowerPart ProductPart SumPart (λ e. e.0) (λ e. e.0) (λ e. e.0) (λ e. e.0) (λ e. e.0) (λ e. e.0) (λ e. e.0) (λ e. e.0) y)) b) (roll-ProductPart (map-ProductPart _ _ _ _ _ _ _ _ Args Comparison Expr Trailer Arm PowerPart ProductPart SumPart (λ e. e.0) (λ e. e.0) (λ e. e.0) (λ e. e.0) (λ e. e.0) (λ e. e.0) (λ e. e.0) (λ e. e.0) y) ≡ b)
product_at y b = decides_as (λ p. λ i. roll-ProductPart (record { op = p.0 i; of = p.1 i })) (λ e. (ap (λ a. (out-ProductPart a).op) e, ap (λ a. (out-ProductPart a).of) e)) (both_decide _ _ (product_op_decides y.op (out-ProductPart b).op) (y.of.1 (out-ProductPart b).of))

sum_at : (y : SumPart-F ((a : Args) × OfArgs a) ((a : Comparison) × OfComparison a) ((a : Expr) × OfExpr a) ((a : Trailer) × OfTrailer a) ((a : Arm) × OfArm a) ((a : PowerPart) × OfPowerPart a) ((a : ProductPart) × OfProductPart a) ((a : SumPart) × OfSumPart a)) (b : SumPart) → Decides (sum_laws.unfolded (roll-SumPart (map-SumPart _ _ _ _ _ _ _ _ Args Comparison Expr Trailer Arm PowerPart ProductPart SumPart (λ e. e.0) (λ e. e.0) (λ e. e.0) (λ e. e.0) (λ e. e.0) (λ e. e.0) (λ e. e.0) (λ e. e.0) y)) b) (roll-SumPart (map-SumPart _ _ _ _ _ _ _ _ Args Comparison Expr Trailer Arm PowerPart ProductPart SumPart (λ e. e.0) (λ e. e.0) (λ e. e.0) (λ e. e.0) (λ e. e.0) (λ e. e.0) (λ e. e.0) (λ e. e.0) y) ≡ b)
sum_at y b = decides_as (λ p. λ i. roll-SumPart (record { op = p.0 i; of = p.1 i })) (λ e. (ap (λ a. (out-SumPart a).op) e, ap (λ a. (out-SumPart a).of) e)) (both_decide _ _ (sum_op_decides y.op (out-SumPart b).op) (y.of.1 (out-SumPart b).of))

args_step : (x : Args-F Args Comparison Expr Trailer Arm PowerPart ProductPart SumPart) (y : Args-F ((a : Args) × OfArgs a) ((a : Comparison) × OfComparison a) ((a : Expr) × OfExpr a) ((a : Trailer) × OfTrailer a) ((a : Arm) × OfArm a) ((a : PowerPart) × OfPowerPart a) ((a : ProductPart) × OfProductPart a) ((a : SumPart) × OfSumPart a)) → map-Args _ _ _ _ _ _ _ _ Args Comparison Expr Trailer Arm PowerPart ProductPart SumPart (λ e. e.0) (λ e. e.0) (λ e. e.0) (λ e. e.0) (λ e. e.0) (λ e. e.0) (λ e. e.0) (λ e. e.0) y ≡ x → OfArgs (roll-Args x)
args_step x y is b =
    let at = subst (λ (z : Args-F Args Comparison Expr Trailer Arm PowerPart ProductPart SumPart). DecidesAt args_type.the_parts each_args (args_choice z)) is (args_at y) in
    let d = enum_decides args_type.enum each_args (args_choice x) at (roll-Args x) b (args_made x) in
    subst (λ (t : Bool). Decides t (roll-Args x ≡ b)) (sym (args_laws.is (roll-Args x) b)) d

comparison_step : (x : Comparison-F Args Comparison Expr Trailer Arm PowerPart ProductPart SumPart) (y : Comparison-F ((a : Args) × OfArgs a) ((a : Comparison) × OfComparison a) ((a : Expr) × OfExpr a) ((a : Trailer) × OfTrailer a) ((a : Arm) × OfArm a) ((a : PowerPart) × OfPowerPart a) ((a : ProductPart) × OfProductPart a) ((a : SumPart) × OfSumPart a)) → map-Comparison _ _ _ _ _ _ _ _ Args Comparison Expr Trailer Arm PowerPart ProductPart SumPart (λ e. e.0) (λ e. e.0) (λ e. e.0) (λ e. e.0) (λ e. e.0) (λ e. e.0) (λ e. e.0) (λ e. e.0) y ≡ x → OfComparison (roll-Comparison x)
comparison_step x y is b =
    let at = subst (λ (z : Comparison-F Args Comparison Expr Trailer Arm PowerPart ProductPart SumPart). DecidesAt comparison_type.the_parts each_comparison (comparison_choice z)) is (comparison_at y) in
    let d = enum_decides comparison_type.enum each_comparison (comparison_choice x) at (roll-Comparison x) b (comparison_made x) in
    subst (λ (t : Bool). Decides t (roll-Comparison x ≡ b)) (sym (comparison_laws.is (roll-Comparison x) b)) d

expr_step : (x : Expr-F Args Comparison Expr Trailer Arm PowerPart ProductPart SumPart) (y : Expr-F ((a : Args) × OfArgs a) ((a : Comparison) × OfComparison a) ((a : Expr) × OfExpr a) ((a : Trailer) × OfTrailer a) ((a : Arm) × OfArm a) ((a : PowerPart) × OfPowerPart a) ((a : ProductPart) × OfProductPart a) ((a : SumPart) × OfSumPart a)) → map-Expr _ _ _ _ _ _ _ _ Args Comparison Expr Trailer Arm PowerPart ProductPart SumPart (λ e. e.0) (λ e. e.0) (λ e. e.0) (λ e. e.0) (λ e. e.0) (λ e. e.0) (λ e. e.0) (λ e. e.0) y ≡ x → OfExpr (roll-Expr x)
expr_step x y is b =
    let at = subst (λ (z : Expr-F Args Comparison Expr Trailer Arm PowerPart ProductPart SumPart). DecidesAt expr_type.the_parts each_expr (expr_choice z)) is (expr_at y) in
    let d = enum_decides expr_type.enum each_expr (expr_choice x) at (roll-Expr x) b (expr_made x) in
    subst (λ (t : Bool). Decides t (roll-Expr x ≡ b)) (sym (expr_laws.is (roll-Expr x) b)) d

trailer_step : (x : Trailer-F Args Comparison Expr Trailer Arm PowerPart ProductPart SumPart) (y : Trailer-F ((a : Args) × OfArgs a) ((a : Comparison) × OfComparison a) ((a : Expr) × OfExpr a) ((a : Trailer) × OfTrailer a) ((a : Arm) × OfArm a) ((a : PowerPart) × OfPowerPart a) ((a : ProductPart) × OfProductPart a) ((a : SumPart) × OfSumPart a)) → map-Trailer _ _ _ _ _ _ _ _ Args Comparison Expr Trailer Arm PowerPart ProductPart SumPart (λ e. e.0) (λ e. e.0) (λ e. e.0) (λ e. e.0) (λ e. e.0) (λ e. e.0) (λ e. e.0) (λ e. e.0) y ≡ x → OfTrailer (roll-Trailer x)
trailer_step x y is b =
    let at = subst (λ (z : Trailer-F Args Comparison Expr Trailer Arm PowerPart ProductPart SumPart). DecidesAt trailer_type.the_parts each_trailer (trailer_choice z)) is (trailer_at y) in
    let d = enum_decides trailer_type.enum each_trailer (trailer_choice x) at (roll-Trailer x) b (trailer_made x) in
    subst (λ (t : Bool). Decides t (roll-Trailer x ≡ b)) (sym (trailer_laws.is (roll-Trailer x) b)) d

arm_step : (x : Arm-F Args Comparison Expr Trailer Arm PowerPart ProductPart SumPart) (y : Arm-F ((a : Args) × OfArgs a) ((a : Comparison) × OfComparison a) ((a : Expr) × OfExpr a) ((a : Trailer) × OfTrailer a) ((a : Arm) × OfArm a) ((a : PowerPart) × OfPowerPart a) ((a : ProductPart) × OfProductPart a) ((a : SumPart) × OfSumPart a)) → map-Arm _ _ _ _ _ _ _ _ Args Comparison Expr Trailer Arm PowerPart ProductPart SumPart (λ e. e.0) (λ e. e.0) (λ e. e.0) (λ e. e.0) (λ e. e.0) (λ e. e.0) (λ e. e.0) (λ e. e.0) y ≡ x → OfArm (roll-Arm x)
arm_step x y is b =
    let d = subst (λ (z : Arm-F Args Comparison Expr Trailer Arm PowerPart ProductPart SumPart). Decides (arm_laws.unfolded (roll-Arm z) b) (roll-Arm z ≡ b)) is (arm_at y b) in
    subst (λ (t : Bool). Decides t (roll-Arm x ≡ b)) (sym (arm_laws.is (roll-Arm x) b)) d

power_step : (x : PowerPart-F Args Comparison Expr Trailer Arm PowerPart ProductPart SumPart) (y : PowerPart-F ((a : Args) × OfArgs a) ((a : Comparison) × OfComparison a) ((a : Expr) × OfExpr a) ((a : Trailer) × OfTrailer a) ((a : Arm) × OfArm a) ((a : PowerPart) × OfPowerPart a) ((a : ProductPart) × OfProductPart a) ((a : SumPart) × OfSumPart a)) → map-PowerPart _ _ _ _ _ _ _ _ Args Comparison Expr Trailer Arm PowerPart ProductPart SumPart (λ e. e.0) (λ e. e.0) (λ e. e.0) (λ e. e.0) (λ e. e.0) (λ e. e.0) (λ e. e.0) (λ e. e.0) y ≡ x → OfPowerPart (roll-PowerPart x)
power_step x y is b =
    let d = subst (λ (z : PowerPart-F Args Comparison Expr Trailer Arm PowerPart ProductPart SumPart). Decides (power_laws.unfolded (roll-PowerPart z) b) (roll-PowerPart z ≡ b)) is (power_at y b) in
    subst (λ (t : Bool). Decides t (roll-PowerPart x ≡ b)) (sym (power_laws.is (roll-PowerPart x) b)) d

product_step : (x : ProductPart-F Args Comparison Expr Trailer Arm PowerPart ProductPart SumPart) (y : ProductPart-F ((a : Args) × OfArgs a) ((a : Comparison) × OfComparison a) ((a : Expr) × OfExpr a) ((a : Trailer) × OfTrailer a) ((a : Arm) × OfArm a) ((a : PowerPart) × OfPowerPart a) ((a : ProductPart) × OfProductPart a) ((a : SumPart) × OfSumPart a)) → map-ProductPart _ _ _ _ _ _ _ _ Args Comparison Expr Trailer Arm PowerPart ProductPart SumPart (λ e. e.0) (λ e. e.0) (λ e. e.0) (λ e. e.0) (λ e. e.0) (λ e. e.0) (λ e. e.0) (λ e. e.0) y ≡ x → OfProductPart (roll-ProductPart x)
product_step x y is b =
    let d = subst (λ (z : ProductPart-F Args Comparison Expr Trailer Arm PowerPart ProductPart SumPart). Decides (product_laws.unfolded (roll-ProductPart z) b) (roll-ProductPart z ≡ b)) is (product_at y b) in
    subst (λ (t : Bool). Decides t (roll-ProductPart x ≡ b)) (sym (product_laws.is (roll-ProductPart x) b)) d

sum_step : (x : SumPart-F Args Comparison Expr Trailer Arm PowerPart ProductPart SumPart) (y : SumPart-F ((a : Args) × OfArgs a) ((a : Comparison) × OfComparison a) ((a : Expr) × OfExpr a) ((a : Trailer) × OfTrailer a) ((a : Arm) × OfArm a) ((a : PowerPart) × OfPowerPart a) ((a : ProductPart) × OfProductPart a) ((a : SumPart) × OfSumPart a)) → map-SumPart _ _ _ _ _ _ _ _ Args Comparison Expr Trailer Arm PowerPart ProductPart SumPart (λ e. e.0) (λ e. e.0) (λ e. e.0) (λ e. e.0) (λ e. e.0) (λ e. e.0) (λ e. e.0) (λ e. e.0) y ≡ x → OfSumPart (roll-SumPart x)
sum_step x y is b =
    let d = subst (λ (z : SumPart-F Args Comparison Expr Trailer Arm PowerPart ProductPart SumPart). Decides (sum_laws.unfolded (roll-SumPart z) b) (roll-SumPart z ≡ b)) is (sum_at y b) in
    subst (λ (t : Bool). Decides t (roll-SumPart x ≡ b)) (sym (sum_laws.is (roll-SumPart x) b)) d

pub args_decides : (a b : Args) → Decides ((args.ghosts).eq a b) (a ≡ b)
args_decides = ind-Args OfArgs OfComparison OfExpr OfTrailer OfArm OfPowerPart OfProductPart OfSumPart args_step comparison_step expr_step trailer_step arm_step power_step product_step sum_step

pub comparison_decides : (a b : Comparison) → Decides ((comparison.ghosts).eq a b) (a ≡ b)
comparison_decides = ind-Comparison OfArgs OfComparison OfExpr OfTrailer OfArm OfPowerPart OfProductPart OfSumPart args_step comparison_step expr_step trailer_step arm_step power_step product_step sum_step

pub expr_decides : (a b : Expr) → Decides ((expr.ghosts).eq a b) (a ≡ b)
expr_decides = ind-Expr OfArgs OfComparison OfExpr OfTrailer OfArm OfPowerPart OfProductPart OfSumPart args_step comparison_step expr_step trailer_step arm_step power_step product_step sum_step

pub trailer_decides : (a b : Trailer) → Decides ((trailer.ghosts).eq a b) (a ≡ b)
trailer_decides = ind-Trailer OfArgs OfComparison OfExpr OfTrailer OfArm OfPowerPart OfProductPart OfSumPart args_step comparison_step expr_step trailer_step arm_step power_step product_step sum_step

pub arm_decides : (a b : Arm) → Decides ((arm.ghosts).eq a b) (a ≡ b)
arm_decides = ind-Arm OfArgs OfComparison OfExpr OfTrailer OfArm OfPowerPart OfProductPart OfSumPart args_step comparison_step expr_step trailer_step arm_step power_step product_step sum_step

pub power_decides : (a b : PowerPart) → Decides ((power.ghosts).eq a b) (a ≡ b)
power_decides = ind-PowerPart OfArgs OfComparison OfExpr OfTrailer OfArm OfPowerPart OfProductPart OfSumPart args_step comparison_step expr_step trailer_step arm_step power_step product_step sum_step

pub product_decides : (a b : ProductPart) → Decides ((product.ghosts).eq a b) (a ≡ b)
product_decides = ind-ProductPart OfArgs OfComparison OfExpr OfTrailer OfArm OfPowerPart OfProductPart OfSumPart args_step comparison_step expr_step trailer_step arm_step power_step product_step sum_step

pub sum_decides : (a b : SumPart) → Decides ((sum.ghosts).eq a b) (a ≡ b)
sum_decides = ind-SumPart OfArgs OfComparison OfExpr OfTrailer OfArm OfPowerPart OfProductPart OfSumPart args_step comparison_step expr_step trailer_step arm_step power_step product_step sum_step
