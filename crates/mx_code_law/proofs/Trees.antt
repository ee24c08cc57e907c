-- The instructions of an expression do what it means: the forms, put together over the trees.
use Rattle.std.proofs.Common.{◌≡◌, ℕ, true, false, List, [], ◌∷◌, ◌++◌, length, map, Some, None, refl, sym, subst, rules}
use Rattle.std.proofs.lemmas.List.{length-map}
use Rattle.mx_value.specs.declared.value.Value.{Value}
use Rattle.mx_syntax.specs.declared.expr.Expr.{Expr, fold-roll-Expr, the_lemmas}
use Rattle.mx_syntax.specs.declared.expr.Args.{Args, fold-Args}
use Rattle.mx_syntax.specs.declared.expr.Comparison.{Comparison, fold-Comparison}
use Rattle.mx_syntax.specs.declared.expr.Trailer.{Trailer, fold-Trailer}
use Rattle.mx_syntax.specs.declared.expr.Arm.{Arm, fold-Arm}
use Rattle.mx_syntax.specs.declared.expr.PowerPart.{PowerPart, fold-PowerPart}
use Rattle.mx_syntax.specs.declared.expr.ProductPart.{ProductPart, fold-ProductPart}
use Rattle.mx_syntax.specs.declared.expr.SumPart.{SumPart, fold-SumPart}
use Rattle.mx_syntax.specs.declared.expr.Sign.{Sign}
use Rattle.mx_syntax.specs.declared.expr.CmpOp.{CmpOp}
use Rattle.mx_syntax.specs.declared.expr.CmpOp.TheVariants as comparison
use Rattle.mx_syntax.specs.declared.expr.SumOp.{SumOp}
use Rattle.mx_syntax.specs.declared.expr.SumOp.TheVariants as sums
use Rattle.mx_syntax.specs.declared.expr.ProductOp.{ProductOp}
use Rattle.mx_syntax.specs.declared.expr.ProductOp.TheVariants as products
use Rattle.mx_syntax.specs.declared.expr.Args.TheOpen.{Args-F, Comparison-F, Expr-F, Trailer-F, Arm-F, PowerPart-F, ProductPart-F, SumPart-F}
use Rattle.mx_syntax.specs.declared.expr.Args.TheViews.{roll-Args, roll-Comparison, roll-Expr, roll-Trailer, roll-Arm, roll-PowerPart, roll-ProductPart, roll-SumPart}
use Rattle.mx_syntax.specs.declared.expr.Args.TheFolds.{map-Args, map-Comparison, map-Expr, map-Trailer, ind-Expr}
use Rattle.mx_syntax.specs.declared.op.Op.{Op}
use Rattle.mx_meaning.specs.Environments.{Reading, computed}
use Rattle.mx_meaning.specs.Lookup.{valued}
use Rattle.mx_meaning.specs.Lookup as lookup
use Rattle.mx_meaning.specs.Operations.{comparing, adding, multiplying, denied, signed}
use Rattle.mx_meaning.specs.Expressions.{value_part, part_read, reading}
use Rattle.mx_meaning.specs.Expressions as meant
use Rattle.mx_code.specs.declared.action.Instr.{Instr}
use Rattle.mx_code.specs.declared.action.Action.TheVariants as act
use Rattle.mx_code.specs.Operators.{compare_op, sum_op, product_op}
use Rattle.mx_code.specs.Expressions.{Coded, Part, Comparing, By, IsNothing, Behind, Call, Over, Index, Attr, value_of, part_code, expr_code}
use Rattle.mx_code.specs.Expressions as made
use Rattle.mx_code.specs.Parts.{args_code, comparison_code, trailer_code, arm_code, power_code, product_code, sum_code}
use Rattle.mx_code.specs.declared.action.Local.{Local}
use Rattle.mx_code_law.specs.States.{Home}
use Rattle.mx_code_law.specs.Fits.{IsScope, CalleeFits}
use Rattle.mx_code_law.proofs.Forms.{Both, AlwaysFits, PartFits, FitsBeside, FitsArm, FitsComparing, tuple_fits, joined_fits, signed_fits, not_fits, powered_fits, deciding_fits, arms_fit, compared_fits, lit_fits}
use Rattle.mx_code_law.proofs.Names.{name_fits, callee_fits}
use Rattle.mx_code_law.proofs.Behind.{FitsTrailer, post_fits}

-- ---- how the other parts of an expression are read

abbrev args_read : Args → meant.Behind
args_read = meant.folded fold-Args meant.args_step meant.comparison_step meant.expr_step meant.behind_step meant.arm_step meant.power_step meant.product_step meant.sum_step

abbrev comparison_read : Comparison → meant.Comparing
comparison_read = meant.folded fold-Comparison meant.args_step meant.comparison_step meant.expr_step meant.behind_step meant.arm_step meant.power_step meant.product_step meant.sum_step

abbrev trailer_read : Trailer → meant.Behind
trailer_read = meant.folded fold-Trailer meant.args_step meant.comparison_step meant.expr_step meant.behind_step meant.arm_step meant.power_step meant.product_step meant.sum_step

abbrev arm_read : Arm → Reading × Reading
arm_read = meant.folded fold-Arm meant.args_step meant.comparison_step meant.expr_step meant.behind_step meant.arm_step meant.power_step meant.product_step meant.sum_step

abbrev power_read : PowerPart → List Sign × Reading
power_read = meant.folded fold-PowerPart meant.args_step meant.comparison_step meant.expr_step meant.behind_step meant.arm_step meant.power_step meant.product_step meant.sum_step

abbrev product_read : ProductPart → Op × Reading
product_read = meant.folded fold-ProductPart meant.args_step meant.comparison_step meant.expr_step meant.behind_step meant.arm_step meant.power_step meant.product_step meant.sum_step

abbrev sum_read : SumPart → Op × Reading
sum_read = meant.folded fold-SumPart meant.args_step meant.comparison_step meant.expr_step meant.behind_step meant.arm_step meant.power_step meant.product_step meant.sum_step

-- a layer of parts, as it is read and as it is compiled
abbrev Bare : Type 0
Bare = Expr-F Args Comparison Expr Trailer Arm PowerPart ProductPart SumPart

abbrev read_layer : Bare → lookup.Part
read_layer y = meant.expr_step (map-Expr Args Comparison Expr Trailer Arm PowerPart ProductPart SumPart _ _ _ _ _ _ _ _ args_read comparison_read part_read trailer_read arm_read power_read product_read sum_read y)

abbrev code_layer : Bare → Part
code_layer y = made.expr_step (map-Expr Args Comparison Expr Trailer Arm PowerPart ProductPart SumPart _ _ _ _ _ _ _ _ args_code comparison_code part_code trailer_code arm_code power_code product_code sum_code y)

read_by : (y : Bare) → part_read (roll-Expr y) ≡ read_layer y
read_by y = fold-roll-Expr _ _ _ _ _ _ _ _ meant.args_step meant.comparison_step meant.expr_step meant.behind_step meant.arm_step meant.power_step meant.product_step meant.sum_step y

code_by : (y : Bare) → part_code (roll-Expr y) ≡ code_layer y
code_by y = fold-roll-Expr _ _ _ _ _ _ _ _ made.args_step made.comparison_step made.expr_step made.behind_step made.arm_step made.power_step made.product_step made.sum_step y

-- ---- the same operators

same_comparison : (o : CmpOp) → comparing o ≡ compare_op o
same_comparison comparison.Lt = refl
same_comparison comparison.Le = refl
same_comparison comparison.Gt = refl
same_comparison comparison.Ge = refl
same_comparison comparison.Eq = refl
same_comparison comparison.Ne = refl
same_comparison comparison.In = refl
same_comparison comparison.NotIn = refl

same_sum : (o : SumOp) → adding o ≡ sum_op o
same_sum sums.Plus = refl
same_sum sums.Minus = refl

same_product : (o : ProductOp) → multiplying o ≡ product_op o
same_product products.Times = refl
same_product products.Over = refl
same_product products.Floor = refl
same_product products.Rem = refl

-- what holds of each part of a list holds of the lists of their readings and their instructions
all_fit : {X R P : Type 0} → (F : R → P → Type 0) (read : X → R) (part : X → P) (xs : List ((x : X) × F (read x) (part x))) → Both F (map read (map (λ x. x.0) xs)) (map part (map (λ x. x.0) xs))
all_fit F read part [] = tt
all_fit F read part (x ∷ xs) = (x.1, all_fit F read part xs)

as_both : {R P : Type 0} → (F : R → P → Type 0) (r r' : R) (p p' : P) → r ≡ r' → p ≡ p' → F r' p' → F r p
as_both F r r' p p' e f x = subst (λ q. F q p) (sym e) (subst (λ q. F r' q) (sym f) x)

module _ (code : List Instr) (h : Home) (size : ℕ) where
  abbrev OfExpr : Expr → Type 0
  OfExpr e = PartFits code h size (part_read e) (part_code e)

  abbrev OfArgs : Args → Type 0
  OfArgs a = FitsTrailer code h size (args_read a) (args_code a)

  abbrev OfComparison : Comparison → Type 0
  OfComparison c = FitsComparing code h size (comparison_read c) (comparison_code c)

  abbrev OfTrailer : Trailer → Type 0
  OfTrailer t = FitsTrailer code h size (trailer_read t) (trailer_code t)

  abbrev OfArm : Arm → Type 0
  OfArm a = FitsArm code h size (arm_read a) (arm_code a)

  abbrev OfPower : PowerPart → Type 0
  OfPower p = FitsBeside code h size (power_read p) (power_code p)

  abbrev OfProduct : ProductPart → Type 0
  OfProduct p = FitsBeside code h size (product_read p) (product_code p)

  abbrev OfSum : SumPart → Type 0
  OfSum p = FitsBeside code h size (sum_read p) (sum_code p)

  -- a layer, each part with what holds of it
  abbrev Held : meant.Former → Type 0
  Held F = F ((a : Args) × OfArgs a) ((c : Comparison) × OfComparison c) ((e : Expr) × OfExpr e) ((t : Trailer) × OfTrailer t) ((a : Arm) × OfArm a) ((p : PowerPart) × OfPower p) ((p : ProductPart) × OfProduct p) ((p : SumPart) × OfSum p)

  abbrev bare : Held Expr-F → Bare
  bare y = map-Expr _ _ _ _ _ _ _ _ Args Comparison Expr Trailer Arm PowerPart ProductPart SumPart (λ e. e.0) (λ e. e.0) (λ e. e.0) (λ e. e.0) (λ e. e.0) (λ e. e.0) (λ e. e.0) (λ e. e.0) y

  values_fit : (items : List ((e : Expr) × OfExpr e)) → Both (AlwaysFits code h size) (map valued (map part_read (map (λ e. e.0) items))) (map value_of (map part_code (map (λ e. e.0) items)))
  values_fit [] = tt
  values_fit (e ∷ items) = (e.1.0, values_fit items)

  -- a part that is a value
  value_fits : (r : Reading) (c : Coded) → AlwaysFits code h size r c → PartFits code h size (value_part r) (made.value_part c)
  value_fits r c f =
      ((λ scope line sc. f scope line sc), (λ scope line sc pc stack ls locals go has st k. f scope line sc pc stack ls locals _ has st (λ v ms sm. k (lookup.Called v) ms sm)))

  -- a first part, with what is made of its value
  first_fits : (r : lookup.Part) (p : Part) (f : Value → Reading) (c : Coded) → AlwaysFits code h size (λ env go. valued r env (λ v. f v env go)) (λ scope line. p false scope line ++ c scope line) → PartFits code h size (meant.first_then r f) (made.first_then p c)
  first_fits r p f c fits = value_fits (λ env go. valued r env (λ v. f v env go)) (λ scope line. p false scope line ++ c scope line) fits

  abbrev bares : {X : Type 0} {F : X → Type 0} → List ((x : X) × F x) → List X
  bares xs = map (λ x. x.0) xs

  layer_fits : (y : Held Expr-F) → PartFits code h size (read_layer (bare y)) (code_layer (bare y))
  layer_fits (Expr-F.Lit v) = value_fits (λ env go. go v) (λ scope line. made.at line (act.Const v) ∷ []) (lit_fits code h size v)
  layer_fits (Expr-F.Name name) = (name_fits code h size name, callee_fits code h size name)
  layer_fits (Expr-F.Tuple items) =
      let parts = map part_code (bares items) in
      value_fits (meant.tuple_read (map valued (map part_read (bares items)))) (λ scope line. made.values_code (map value_of parts) scope line ++ made.at line (act.Tuple (length parts)) ∷ [])
      (tuple_fits code h size (map valued (map part_read (bares items))) (map value_of parts) (length parts) (sym (length-map parts value_of)) (values_fit items))
  layer_fits (Expr-F.Cond arms last) =
      value_fits (meant.chosen_from (map arm_read (bares arms)) (reading last.0)) (made.arms_code (map arm_code (bares arms)) (expr_code last.0))
      (arms_fit code h size (map arm_read (bares arms)) (map arm_code (bares arms)) (reading last.0) (expr_code last.0) (all_fit (FitsArm code h size) arm_read arm_code arms) last.1.0)
  layer_fits (Expr-F.Or items) =
      let rs = map valued (map part_read (bares items)) in
      let cs = map value_of (map part_code (bares items)) in
      value_fits (meant.deciding true rs) (made.deciding_code true cs) (deciding_fits code h size true rs cs (values_fit items))
  layer_fits (Expr-F.And items) =
      let rs = map valued (map part_read (bares items)) in
      let cs = map value_of (map part_code (bares items)) in
      value_fits (meant.deciding false rs) (made.deciding_code false cs) (deciding_fits code h size false rs cs (values_fit items))
  layer_fits (Expr-F.Not count part) =
      first_fits (part_read part.0) (part_code part.0) (λ v. computed (denied count v)) (λ scope line. made.at line (act.Not count) ∷ []) (not_fits code h size (part_code part.0) (part_read part.0) count part.1)
  layer_fits (Expr-F.Compare first rest) =
      let rs = map comparison_read (bares rest) in
      let cs = map comparison_code (bares rest) in
      first_fits (part_read first.0) (part_code first.0) (meant.compared_from rs) (made.chain_code cs) (compared_fits code h size (part_code first.0) (part_read first.0) rs cs first.1 (all_fit (FitsComparing code h size) comparison_read comparison_code rest))
  layer_fits (Expr-F.Sum first rest) =
      let rs = map sum_read (bares rest) in
      let cs = map sum_code (bares rest) in
      first_fits (part_read first.0) (part_code first.0) (meant.joined_from rs) (made.joined_code cs) (joined_fits code h size (part_code first.0) (part_read first.0) rs cs first.1 (all_fit (FitsBeside code h size) sum_read sum_code rest))
  layer_fits (Expr-F.Product first rest) =
      let rs = map product_read (bares rest) in
      let cs = map product_code (bares rest) in
      first_fits (part_read first.0) (part_code first.0) (meant.joined_from rs) (made.joined_code cs) (joined_fits code h size (part_code first.0) (part_read first.0) rs cs first.1 (all_fit (FitsBeside code h size) product_read product_code rest))
  layer_fits (Expr-F.Signed signs part) =
      first_fits (part_read part.0) (part_code part.0) (λ v. computed (signed signs v)) (λ scope line. made.signs_code signs line) (signed_fits code h size (part_code part.0) (part_read part.0) signs part.1)
  layer_fits (Expr-F.Power first rest) =
      let rs = map power_read (bares rest) in
      let cs = map power_code (bares rest) in
      first_fits (part_read first.0) (part_code first.0) (meant.powered_by rs) (made.powered_code cs) (powered_fits code h size (part_code first.0) (part_read first.0) rs cs first.1 (all_fit (FitsBeside code h size) power_read power_code rest))
  layer_fits (Expr-F.Post first more) =
      post_fits code h size (part_code first.0) (part_read first.0) (map trailer_read (bares more)) (map trailer_code (bares more)) first.1 (all_fit (FitsTrailer code h size) trailer_read trailer_code more)

  args_fit : (y : Held Args-F) → OfArgs (roll-Args (map-Args _ _ _ _ _ _ _ _ Args Comparison Expr Trailer Arm PowerPart ProductPart SumPart (λ e. e.0) (λ e. e.0) (λ e. e.0) (λ e. e.0) (λ e. e.0) (λ e. e.0) (λ e. e.0) (λ e. e.0) y))
  args_fit (Args-F.List items) =
      let xs = map (λ e. e.0) items in
      let a = roll-Args (Args-F.List xs) in
      as_both (FitsTrailer code h size) (args_read a) (meant.Call (map valued (map part_read xs))) (args_code a) (Call (map value_of (map part_code xs))) (search (the_lemmas, rules)) (search (the_lemmas, rules)) (values_fit items)
  args_fit (Args-F.Gen element name over None) =
      let a = roll-Args (Args-F.Gen element.0 name over.0 None) in
      as_both (FitsTrailer code h size) (args_read a) (meant.Over (record { element = reading element.0; name = name; over = reading over.0; test = None })) (args_code a) (Over (record { element = expr_code element.0; name = name; over = expr_code over.0; test = None })) (search (the_lemmas, rules)) (search (the_lemmas, rules))
      (element.1.0, refl, over.1.0, tt)
  args_fit (Args-F.Gen element name over (Some test)) =
      let a = roll-Args (Args-F.Gen element.0 name over.0 (Some test.0)) in
      as_both (FitsTrailer code h size) (args_read a) (meant.Over (record { element = reading element.0; name = name; over = reading over.0; test = Some (reading test.0) })) (args_code a) (Over (record { element = expr_code element.0; name = name; over = expr_code over.0; test = Some (expr_code test.0) })) (search (the_lemmas, rules)) (search (the_lemmas, rules))
      (element.1.0, refl, over.1.0, test.1.0)

  comparison_fits : (y : Held Comparison-F) → OfComparison (roll-Comparison (map-Comparison _ _ _ _ _ _ _ _ Args Comparison Expr Trailer Arm PowerPart ProductPart SumPart (λ e. e.0) (λ e. e.0) (λ e. e.0) (λ e. e.0) (λ e. e.0) (λ e. e.0) (λ e. e.0) (λ e. e.0) y))
  comparison_fits (Comparison-F.Op o e) =
      let c = roll-Comparison (Comparison-F.Op o e.0) in
      as_both (FitsComparing code h size) (comparison_read c) (meant.By (comparing o) (reading e.0)) (comparison_code c) (By (compare_op o) (expr_code e.0)) (search (the_lemmas, rules)) (search (the_lemmas, rules)) (same_comparison o, e.1.0)
  comparison_fits Comparison-F.IsNone = as_both (FitsComparing code h size) (comparison_read (roll-Comparison Comparison-F.IsNone)) (meant.IsNothing true) (comparison_code (roll-Comparison Comparison-F.IsNone)) (IsNothing true) (search (the_lemmas, rules)) (search (the_lemmas, rules)) refl
  comparison_fits Comparison-F.IsNotNone = as_both (FitsComparing code h size) (comparison_read (roll-Comparison Comparison-F.IsNotNone)) (meant.IsNothing false) (comparison_code (roll-Comparison Comparison-F.IsNotNone)) (IsNothing false) (search (the_lemmas, rules)) (search (the_lemmas, rules)) refl

  trailer_fits : (y : Held Trailer-F) → OfTrailer (roll-Trailer (map-Trailer _ _ _ _ _ _ _ _ Args Comparison Expr Trailer Arm PowerPart ProductPart SumPart (λ e. e.0) (λ e. e.0) (λ e. e.0) (λ e. e.0) (λ e. e.0) (λ e. e.0) (λ e. e.0) (λ e. e.0) y))
  trailer_fits (Trailer-F.Call a) =
      let t = roll-Trailer (Trailer-F.Call a.0) in
      as_both (FitsTrailer code h size) (trailer_read t) (args_read a.0) (trailer_code t) (args_code a.0) (search (the_lemmas, rules)) (search (the_lemmas, rules)) a.1
  trailer_fits (Trailer-F.Index items) =
      let xs = map (λ e. e.0) items in
      let t = roll-Trailer (Trailer-F.Index xs) in
      as_both (FitsTrailer code h size) (trailer_read t) (meant.Index (map valued (map part_read xs))) (trailer_code t) (Index (map value_of (map part_code xs))) (search (the_lemmas, rules)) (search (the_lemmas, rules)) (values_fit items)
  trailer_fits (Trailer-F.Attr name) =
      let t = roll-Trailer (Trailer-F.Attr name) in
      as_both (FitsTrailer code h size) (trailer_read t) (meant.Attr name) (trailer_code t) (Attr name) (search (the_lemmas, rules)) (search (the_lemmas, rules)) refl

  arm_fits : (v t : Expr) → OfExpr v → OfExpr t → OfArm (roll-Arm (record { value = v; test = t }))
  arm_fits v t f g =
      let a = roll-Arm (record { value = v; test = t }) in
      as_both (FitsArm code h size) (arm_read a) (reading v, reading t) (arm_code a) (expr_code v, expr_code t) (search (the_lemmas, rules)) (search (the_lemmas, rules)) (f.0, g.0)

  power_fits : (signs : List Sign) (e : Expr) → OfExpr e → OfPower (roll-PowerPart (record { signs = signs; of = e }))
  power_fits signs e f =
      let p = roll-PowerPart (record { signs = signs; of = e }) in
      as_both (FitsBeside code h size) (power_read p) (signs, reading e) (power_code p) (signs, expr_code e) (search (the_lemmas, rules)) (search (the_lemmas, rules)) (refl, f.0)

  product_fits : (o : ProductOp) (e : Expr) → OfExpr e → OfProduct (roll-ProductPart (record { op = o; of = e }))
  product_fits o e f =
      let p = roll-ProductPart (record { op = o; of = e }) in
      as_both (FitsBeside code h size) (product_read p) (multiplying o, reading e) (product_code p) (product_op o, expr_code e) (search (the_lemmas, rules)) (search (the_lemmas, rules)) (same_product o, f.0)

  sum_fits : (o : SumOp) (e : Expr) → OfExpr e → OfSum (roll-SumPart (record { op = o; of = e }))
  sum_fits o e f =
      let p = roll-SumPart (record { op = o; of = e }) in
      as_both (FitsBeside code h size) (sum_read p) (adding o, reading e) (sum_code p) (sum_op o, expr_code e) (search (the_lemmas, rules)) (search (the_lemmas, rules)) (same_sum o, f.0)

  part_fits : (e : Expr) → OfExpr e
  part_fits = ind-Expr OfArgs OfComparison OfExpr OfTrailer OfArm OfPower OfProduct OfSum
      (λ x y is. subst (λ (z : Args-F Args Comparison Expr Trailer Arm PowerPart ProductPart SumPart). OfArgs (roll-Args z)) is (args_fit y))
      (λ x y is. subst (λ (z : Comparison-F Args Comparison Expr Trailer Arm PowerPart ProductPart SumPart). OfComparison (roll-Comparison z)) is (comparison_fits y))
      (λ x y is. subst (λ (z : Bare). OfExpr (roll-Expr z)) is (as_both (PartFits code h size) (part_read (roll-Expr (bare y))) (read_layer (bare y)) (part_code (roll-Expr (bare y))) (code_layer (bare y)) (read_by (bare y)) (code_by (bare y)) (layer_fits y)))
      (λ x y is. subst (λ (z : Trailer-F Args Comparison Expr Trailer Arm PowerPart ProductPart SumPart). OfTrailer (roll-Trailer z)) is (trailer_fits y))
      (λ x y is. subst (λ (z : Arm-F Args Comparison Expr Trailer Arm PowerPart ProductPart SumPart). OfArm (roll-Arm z)) is (arm_fits y.value.0 y.test.0 y.value.1 y.test.1))
      (λ x y is. subst (λ (z : PowerPart-F Args Comparison Expr Trailer Arm PowerPart ProductPart SumPart). OfPower (roll-PowerPart z)) is (power_fits y.signs y.of.0 y.of.1))
      (λ x y is. subst (λ (z : ProductPart-F Args Comparison Expr Trailer Arm PowerPart ProductPart SumPart). OfProduct (roll-ProductPart z)) is (product_fits y.op y.of.0 y.of.1))
      (λ x y is. subst (λ (z : SumPart-F Args Comparison Expr Trailer Arm PowerPart ProductPart SumPart). OfSum (roll-SumPart z)) is (sum_fits y.op y.of.0 y.of.1))

  -- each expression's instructions do what it means
  pub expr_fits : (e : Expr) → AlwaysFits code h size (reading e) (expr_code e)
  expr_fits e = (part_fits e).0

  -- and as a part that is called
  pub callees_fit : (e : Expr) (scope : List Local) (line : ℕ) → IsScope scope → CalleeFits code h size scope line (part_code e true scope line) (part_read e)
  callees_fit e = (part_fits e).1
