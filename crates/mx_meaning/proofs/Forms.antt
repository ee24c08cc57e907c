-- What is kept by each way in which a run goes on, is kept by every form of expression and statement.
use Rattle.std.proofs.Common.{Bool, true, false, ◌≡◌, List, [], ◌∷◌, Option, None, Some, map, sym, subst, rules}
use Rattle.std.specs.Bool.{beq}
use Rattle.mx_value.specs.declared.value.Value.{Value, out-Value}
use Rattle.mx_value.specs.declared.value.Value.TheVariants.{Nothing, Tup}
use Rattle.mx_value.specs.declared.namespace.Namespace.{Namespace}
use Rattle.mx_syntax.specs.declared.expr.Expr.{Expr, fold-roll-Expr, the_lemmas}
use Rattle.mx_syntax.specs.declared.expr.Args.{Args, fold-Args}
use Rattle.mx_syntax.specs.declared.expr.Comparison.{Comparison, fold-Comparison}
use Rattle.mx_syntax.specs.declared.expr.Trailer.{Trailer, fold-Trailer}
use Rattle.mx_syntax.specs.declared.expr.Arm.{Arm, fold-Arm}
use Rattle.mx_syntax.specs.declared.expr.PowerPart.{PowerPart, fold-PowerPart}
use Rattle.mx_syntax.specs.declared.expr.ProductPart.{ProductPart, fold-ProductPart}
use Rattle.mx_syntax.specs.declared.expr.SumPart.{SumPart, fold-SumPart}
use Rattle.mx_syntax.specs.declared.expr.Sign.{Sign}
use Rattle.mx_syntax.specs.declared.expr.SumOp.{SumOp}
use Rattle.mx_syntax.specs.declared.expr.ProductOp.{ProductOp}
use Rattle.mx_syntax.specs.declared.expr.Args.TheOpen.{Args-F, Comparison-F, Expr-F, Trailer-F, Arm-F, PowerPart-F, ProductPart-F, SumPart-F}
use Rattle.mx_syntax.specs.declared.expr.Args.TheViews.{roll-Args, roll-Comparison, roll-Expr, roll-Trailer, roll-Arm, roll-PowerPart, roll-ProductPart, roll-SumPart}
use Rattle.mx_syntax.specs.declared.expr.Args.TheFolds.{map-Args, map-Comparison, map-Expr, map-Trailer, ind-Expr}
use Rattle.mx_edit.specs.declared.key.Key.{Key}
use Rattle.mx_edit.specs.declared.key.KeyResult.{KeyResult}
use Rattle.mx_syntax.specs.declared.op.Op.{Op}
use Rattle.mx_ops.specs.declared.builtin.Builtin.TheVariants as builtin
use Rattle.mx_ops.specs.Kinds.{items_of}
use Rattle.mx_ops.specs.Truth.{truth}
use Rattle.mx_ops.specs.Answers.{made}
use Rattle.mx_runs.specs.Runs.{Run}
use Rattle.mx_meaning.specs.Environments.{Env, Reading, within}
use Rattle.mx_meaning.specs.Lookup.{Callee, Called, Function, Part, valued}
use Rattle.mx_meaning.specs.Calls.{called}
use Rattle.mx_meaning.specs.Operations.{comparing, adding, multiplying, of_two, denied, signed, powered}
use Rattle.mx_meaning.specs.Expressions.{values_from, values_beside, tuple_read, powered_by, joined_from, deciding_from, deciding, chosen_from, Comparing, By, IsNothing, nothing_in, compared_from, Generator, if_passed, items_or_fault, gone_over, generated_from, generated, decided_from, decided, called_over, Behind, Call, Over, Index, Attr, applied, applied_from, Layer, folded, value_part, first_then, part_read, reading}
use Rattle.mx_meaning.specs.Expressions as meant
use Rattle.mx_meaning.proofs.Keeping.{Keeps}
use Rattle.mx_meaning.proofs.Keeping as kept

-- it holds of each
abbrev pub Each : {X : Type 0} → (X → Type 0) → List X → Type 0
Each P [] = Unit {0}
Each P (x ∷ xs) = P x × Each P xs

each_is : {X R : Type 0} → (P : R → Type 0) (read : X → R) (xs : List ((x : X) × P (read x))) → Each P (map read (map (λ x. x.0) xs))
each_is P read [] = tt
each_is P read (x ∷ xs) = (x.1, each_is P read xs)

-- ---- how the other parts of an expression are read

abbrev pub args_read : Args → Behind
args_read = folded fold-Args meant.args_step meant.comparison_step meant.expr_step meant.behind_step meant.arm_step meant.power_step meant.product_step meant.sum_step

abbrev pub comparison_read : Comparison → Comparing
comparison_read = folded fold-Comparison meant.args_step meant.comparison_step meant.expr_step meant.behind_step meant.arm_step meant.power_step meant.product_step meant.sum_step

abbrev pub trailer_read : Trailer → Behind
trailer_read = folded fold-Trailer meant.args_step meant.comparison_step meant.expr_step meant.behind_step meant.arm_step meant.power_step meant.product_step meant.sum_step

abbrev pub arm_read : Arm → Reading × Reading
arm_read = folded fold-Arm meant.args_step meant.comparison_step meant.expr_step meant.behind_step meant.arm_step meant.power_step meant.product_step meant.sum_step

abbrev pub power_read : PowerPart → List Sign × Reading
power_read = folded fold-PowerPart meant.args_step meant.comparison_step meant.expr_step meant.behind_step meant.arm_step meant.power_step meant.product_step meant.sum_step

abbrev pub product_read : ProductPart → Op × Reading
product_read = folded fold-ProductPart meant.args_step meant.comparison_step meant.expr_step meant.behind_step meant.arm_step meant.power_step meant.product_step meant.sum_step

abbrev pub sum_read : SumPart → Op × Reading
sum_read = folded fold-SumPart meant.args_step meant.comparison_step meant.expr_step meant.behind_step meant.arm_step meant.power_step meant.product_step meant.sum_step

-- a layer of parts that are not read yet
abbrev Bare : Type 0
Bare = Expr-F Args Comparison Expr Trailer Arm PowerPart ProductPart SumPart

abbrev read_layer : Bare → Part
read_layer y = meant.expr_step (map-Expr Args Comparison Expr Trailer Arm PowerPart ProductPart SumPart _ _ _ _ _ _ _ _ args_read comparison_read part_read trailer_read arm_read power_read product_read sum_read y)

read_by : (y : Bare) → part_read (roll-Expr y) ≡ read_layer y
read_by y = fold-roll-Expr _ _ _ _ _ _ _ _ meant.args_step meant.comparison_step meant.expr_step meant.behind_step meant.arm_step meant.power_step meant.product_step meant.sum_step y

as_read : {R : Type 0} → (P : R → Type 0) (r s : R) → r ≡ s → P s → P r
as_read P r s e x = subst P (sym e) x

module _ (look : Key → KeyResult) (P : Run → Type 0) (Came : Namespace → Type 0) (keeps : Keeps look P Came) where
  abbrev Onwards : {X : Type 0} → (X → Run) → Type 0
  Onwards {X} go = (x : X) → P (go x)

  abbrev pub OfReading : Reading → Type 0
  OfReading read = (env : Env) (go : Value → Run) → Onwards go → P (read env go)

  abbrev OfPart : Part → Type 0
  OfPart part = (env : Env) (go : Callee → Run) → Onwards go → P (part env go)

  -- ---- parts in a row

  values_kept : (parts : List Reading) → Each OfReading parts → (done : List Value) (env : Env) (go : List Value → Run) → Onwards go → P (values_from parts done env go)
  values_kept [] a done env go k = k done
  values_kept (p ∷ parts) a done env go k = a.0 env _ (λ v. values_kept parts a.1 _ env go k)

  pub beside_kept : {X : Type 0} (parts : List (X × Reading)) → Each (λ p. OfReading p.1) parts → (done : List (X × Value)) (env : Env) (go : List (X × Value) → Run) → Onwards go → P (values_beside parts done env go)
  beside_kept [] a done env go k = k done
  beside_kept (p ∷ parts) a done env go k = a.0 env _ (λ v. beside_kept parts a.1 _ env go k)

  tuple_kept : (items : List Reading) → Each OfReading items → OfReading (tuple_read items)
  tuple_kept items a env go k = values_kept items a [] env _ (λ vs. kept.computed_kept look P Came keeps (made (Tup vs)) env go k)

  powered_kept : (parts : List (List Sign × Reading)) → Each (λ p. OfReading p.1) parts → (base : Value) → OfReading (powered_by parts base)
  powered_kept parts a base env go k = beside_kept parts a [] env _ (λ ps. kept.computed_kept look P Came keeps (powered base ps) env go k)

  joined_kept : (parts : List (Op × Reading)) → Each (λ p. OfReading p.1) parts → (total : Value) → OfReading (joined_from parts total)
  joined_kept [] a total env go k = k total
  joined_kept (p ∷ parts) a total env go k = a.0 env _ (λ v. kept.computed_kept look P Came keeps (of_two p.0 total v) env _ (λ s. joined_kept parts a.1 s env go k))

  deciding_from_kept : (decides : Bool) (parts : List Reading) → Each OfReading parts → (v : Value) → OfReading (deciding_from decides parts v)
  deciding_from_kept decides [] a v env go k = k v
  deciding_from_kept decides (p ∷ parts) a v env go k =
      kept.computed_kept look P Came keeps (truth v) env _ (λ b. kept.if_kept look P Came keeps (beq b decides) _ _ (k v) (a.0 env _ (λ w. deciding_from_kept decides parts a.1 w env go k)))

  deciding_kept : (decides : Bool) (parts : List Reading) → Each OfReading parts → OfReading (deciding decides parts)
  deciding_kept decides [] a env go k = kept.fault_kept look P Came keeps _ env
  deciding_kept decides (p ∷ parts) a env go k = a.0 env _ (λ v. deciding_from_kept decides parts a.1 v env go k)

  abbrev OfChoice : Reading × Reading → Type 0
  OfChoice a = OfReading a.0 × OfReading a.1

  chosen_kept : (arms : List (Reading × Reading)) → Each OfChoice arms → (last : Reading) → OfReading last → OfReading (chosen_from arms last)
  chosen_kept [] a last l env go k = l env go k
  chosen_kept (x ∷ arms) a last l env go k = a.0.1 env _ (λ t. kept.tested_kept look P Came keeps (truth t) _ _ env (a.0.0 env go k) (chosen_kept arms a.1 last l env go k))

  -- ---- comparisons

  abbrev OfComparing : Comparing → Type 0
  OfComparing (By op right) = OfReading right
  OfComparing (IsNothing asked) = Unit {0}

  compared_kept : (rest : List Comparing) → Each OfComparing rest → (left : Value) → OfReading (compared_from rest left)
  compared_kept [] a left env go k = k _
  compared_kept (By op right ∷ rest) a left env go k =
      a.0 env _ (λ v. kept.computed_kept look P Came keeps (of_two op left v) env _ (λ holds. kept.tested_kept look P Came keeps (truth holds) _ _ env (compared_kept rest a.1 v env go k) (k _)))
  compared_kept (IsNothing asked ∷ rest) a left env go k =
      kept.if_kept look P Came keeps (beq (nothing_in (out-Value left)) asked) _ _ (compared_kept rest a.1 Nothing env go k) (k _)

  -- ---- generators

  abbrev OfTest : Option Reading → Type 0
  OfTest None = Unit {0}
  OfTest (Some test) = OfReading test

  abbrev OfGenerator : Generator → Type 0
  OfGenerator g = OfReading g.element × OfReading g.over × OfTest g.test

  passed_kept : (test : Option Reading) → OfTest test → (env : Env) (given other : Run) → P given → P other → P (if_passed test env given other)
  passed_kept None a env given other x y = x
  passed_kept (Some test) a env given other x y = a env _ (λ t. kept.tested_kept look P Came keeps (truth t) given other env x y)

  pub items_kept : (items : Option (List Value)) (env : Env) (go : List Value → Run) → Onwards go → P (items_or_fault items env go)
  items_kept (Some items) env go k = k items
  items_kept None env go k = kept.fault_kept look P Came keeps _ env

  module _ (g : Generator) (a : OfGenerator g) where
    over_kept : (env : Env) (go : List Value → Run) → Onwards go → P (gone_over g env go)
    over_kept env go k = a.1 env _ (λ v. items_kept (items_of v) env go k)

    generated_from_kept : (vs done : List Value) (env : Env) (go : List Value → Run) → Onwards go → P (generated_from g vs done env go)
    generated_from_kept [] done env go k = k done
    generated_from_kept (v ∷ vs) done env go k =
        passed_kept g.test a.2 (within g.name v env) _ _ (a.0 (within g.name v env) _ (λ w. generated_from_kept vs _ env go k)) (generated_from_kept vs done env go k)

    generated_kept : OfReading (generated g)
    generated_kept env go k = over_kept env _ (λ vs. generated_from_kept vs [] env _ (λ items. kept.computed_kept look P Came keeps (made (Tup items)) env go k))

    decided_from_kept : (decides : Bool) (vs : List Value) → OfReading (decided_from decides g vs)
    decided_from_kept decides [] env go k = k _
    decided_from_kept decides (v ∷ vs) env go k =
        passed_kept g.test a.2 (within g.name v env) _ _ (a.0 (within g.name v env) _ (λ w. kept.computed_kept look P Came keeps (truth w) env _ (λ b. kept.if_kept look P Came keeps (beq b decides) _ _ (k _) (decided_from_kept decides vs env go k)))) (decided_from_kept decides vs env go k)

    decided_kept : (decides : Bool) → OfReading (decided decides g)
    decided_kept decides env go k = over_kept env _ (λ vs. decided_from_kept decides vs env go k)

    as_tuple_kept : (c : Callee) → OfReading (λ env go. generated g env (λ v. called c (v ∷ []) env go))
    as_tuple_kept c env go k = generated_kept env _ (λ v. kept.called_kept look P Came keeps c (v ∷ []) env go k)

    called_over_kept : (c : Callee) → OfReading (called_over c g)
    called_over_kept (Called v) env go k = as_tuple_kept (Called v) env go k
    called_over_kept (Function builtin.Any) env go k = decided_kept true env go k
    called_over_kept (Function builtin.All) env go k = decided_kept false env go k
    called_over_kept (Function builtin.Abs) env go k = as_tuple_kept (Function builtin.Abs) env go k
    called_over_kept (Function builtin.Fixed) env go k = as_tuple_kept (Function builtin.Fixed) env go k
    called_over_kept (Function builtin.Int) env go k = as_tuple_kept (Function builtin.Int) env go k
    called_over_kept (Function builtin.Len) env go k = as_tuple_kept (Function builtin.Len) env go k
    called_over_kept (Function builtin.Max) env go k = as_tuple_kept (Function builtin.Max) env go k
    called_over_kept (Function builtin.Min) env go k = as_tuple_kept (Function builtin.Min) env go k
    called_over_kept (Function builtin.Nroot) env go k = as_tuple_kept (Function builtin.Nroot) env go k
    called_over_kept (Function builtin.Range) env go k = as_tuple_kept (Function builtin.Range) env go k
    called_over_kept (Function builtin.Round) env go k = as_tuple_kept (Function builtin.Round) env go k
    called_over_kept (Function builtin.Str) env go k = as_tuple_kept (Function builtin.Str) env go k
    called_over_kept (Function builtin.Sum) env go k = as_tuple_kept (Function builtin.Sum) env go k
    called_over_kept (Function builtin.Tuple) env go k = as_tuple_kept (Function builtin.Tuple) env go k

  -- ---- what stands behind a part

  abbrev OfBehind : Behind → Type 0
  OfBehind (Call args) = Each OfReading args
  OfBehind (Over g) = OfGenerator g
  OfBehind (Index args) = Each OfReading args
  OfBehind (Attr name) = Unit {0}

  applied_kept : (b : Behind) → OfBehind b → (c : Callee) → OfReading (applied b c)
  applied_kept (Call args) a c env go k = values_kept args a [] env _ (λ vs. kept.called_kept look P Came keeps c vs env go k)
  applied_kept (Over g) a c env go k = called_over_kept g a c env go k
  applied_kept (Index args) a c env go k = kept.as_value_kept look P Came keeps c env _ (λ v. values_kept args a [] env _ (λ vs. kept.indexed_kept look P Came keeps v vs env go k))
  applied_kept (Attr name) a c env go k = kept.as_value_kept look P Came keeps c env _ (λ v. kept.attribute_kept look P Came keeps v name env go k)

  applied_from_kept : (more : List Behind) → Each OfBehind more → (c : Callee) → OfPart (applied_from more c)
  applied_from_kept [] a c env go k = k c
  applied_from_kept (b ∷ more) a c env go k = applied_kept b a.0 c env _ (λ v. applied_from_kept more a.1 (Called v) env go k)

  -- ---- layers

  abbrev OfExpr : Expr → Type 0
  OfExpr e = OfPart (part_read e)

  abbrev OfArgs : Args → Type 0
  OfArgs a = OfBehind (args_read a)

  abbrev OfComparison : Comparison → Type 0
  OfComparison c = OfComparing (comparison_read c)

  abbrev OfTrailer : Trailer → Type 0
  OfTrailer t = OfBehind (trailer_read t)

  abbrev OfArm : Arm → Type 0
  OfArm a = OfChoice (arm_read a)

  abbrev OfPower : PowerPart → Type 0
  OfPower p = OfReading (power_read p).1

  abbrev OfProduct : ProductPart → Type 0
  OfProduct p = OfReading (product_read p).1

  abbrev OfSum : SumPart → Type 0
  OfSum p = OfReading (sum_read p).1

  -- a layer, each part with what holds of it
  abbrev Held : meant.Former → Type 0
  Held F = F ((a : Args) × OfArgs a) ((c : Comparison) × OfComparison c) ((e : Expr) × OfExpr e) ((t : Trailer) × OfTrailer t) ((a : Arm) × OfArm a) ((p : PowerPart) × OfPower p) ((p : ProductPart) × OfProduct p) ((p : SumPart) × OfSum p)

  valued_kept : (part : Part) → OfPart part → OfReading (valued part)
  valued_kept part h env go k = kept.valued_kept look P Came keeps part h env go k

  values_are : (items : List ((e : Expr) × OfExpr e)) → Each OfReading (map valued (map part_read (map (λ e. e.0) items)))
  values_are [] = tt
  values_are (e ∷ items) = (valued_kept (part_read e.0) e.1, values_are items)

  value_part_kept : (read : Reading) → OfReading read → OfPart (value_part read)
  value_part_kept read h env go k = h env _ (λ v. k _)

  first_then_kept : (first : Part) → OfPart first → (rest : Value → Reading) → ((v : Value) → OfReading (rest v)) → OfPart (first_then first rest)
  first_then_kept first h rest r env go k = kept.valued_kept look P Came keeps first h env _ (λ v. r v env _ (λ w. k _))

  abbrev bare : Held Expr-F → Bare
  bare y = map-Expr _ _ _ _ _ _ _ _ Args Comparison Expr Trailer Arm PowerPart ProductPart SumPart (λ e. e.0) (λ e. e.0) (λ e. e.0) (λ e. e.0) (λ e. e.0) (λ e. e.0) (λ e. e.0) (λ e. e.0) y

  layer_kept : (y : Held Expr-F) → OfPart (read_layer (bare y))
  layer_kept (Expr-F.Lit v) = value_part_kept _ (λ env go k. k v)
  layer_kept (Expr-F.Name name) = kept.named_kept look P Came keeps name
  layer_kept (Expr-F.Tuple items) = value_part_kept _ (tuple_kept _ (values_are items))
  layer_kept (Expr-F.Cond arms last) = value_part_kept _ (chosen_kept _ (each_is OfChoice arm_read arms) _ (valued_kept (part_read last.0) last.1))
  layer_kept (Expr-F.Or items) = value_part_kept _ (deciding_kept true _ (values_are items))
  layer_kept (Expr-F.And items) = value_part_kept _ (deciding_kept false _ (values_are items))
  layer_kept (Expr-F.Not count part) = first_then_kept (part_read part.0) part.1 _ (λ v. kept.computed_kept look P Came keeps (denied count v))
  layer_kept (Expr-F.Compare first rest) = first_then_kept (part_read first.0) first.1 _ (compared_kept _ (each_is OfComparing comparison_read rest))
  layer_kept (Expr-F.Sum first rest) = first_then_kept (part_read first.0) first.1 _ (joined_kept _ (each_is (λ p. OfReading p.1) sum_read rest))
  layer_kept (Expr-F.Product first rest) = first_then_kept (part_read first.0) first.1 _ (joined_kept _ (each_is (λ p. OfReading p.1) product_read rest))
  layer_kept (Expr-F.Signed signs part) = first_then_kept (part_read part.0) part.1 _ (λ v. kept.computed_kept look P Came keeps (signed signs v))
  layer_kept (Expr-F.Power first rest) = first_then_kept (part_read first.0) first.1 _ (powered_kept _ (each_is (λ p. OfReading p.1) power_read rest))
  layer_kept (Expr-F.Post first more) = λ env go k. first.1 env _ (λ c. applied_from_kept _ (each_is OfBehind trailer_read more) c env go k)

  args_kept : (y : Held Args-F) → OfArgs (roll-Args (map-Args _ _ _ _ _ _ _ _ Args Comparison Expr Trailer Arm PowerPart ProductPart SumPart (λ e. e.0) (λ e. e.0) (λ e. e.0) (λ e. e.0) (λ e. e.0) (λ e. e.0) (λ e. e.0) (λ e. e.0) y))
  args_kept (Args-F.List items) =
      let xs = map (λ e. e.0) items in
      as_read OfBehind (args_read (roll-Args (Args-F.List xs))) (Call (map valued (map part_read xs))) (search (the_lemmas, rules)) (values_are items)
  args_kept (Args-F.Gen element name over None) =
      as_read OfBehind (args_read (roll-Args (Args-F.Gen element.0 name over.0 None))) (Over (record { element = reading element.0; name = name; over = reading over.0; test = None })) (search (the_lemmas, rules))
      (valued_kept (part_read element.0) element.1, valued_kept (part_read over.0) over.1, tt)
  args_kept (Args-F.Gen element name over (Some test)) =
      as_read OfBehind (args_read (roll-Args (Args-F.Gen element.0 name over.0 (Some test.0)))) (Over (record { element = reading element.0; name = name; over = reading over.0; test = Some (reading test.0) })) (search (the_lemmas, rules))
      (valued_kept (part_read element.0) element.1, valued_kept (part_read over.0) over.1, valued_kept (part_read test.0) test.1)

  comparison_kept : (y : Held Comparison-F) → OfComparison (roll-Comparison (map-Comparison _ _ _ _ _ _ _ _ Args Comparison Expr Trailer Arm PowerPart ProductPart SumPart (λ e. e.0) (λ e. e.0) (λ e. e.0) (λ e. e.0) (λ e. e.0) (λ e. e.0) (λ e. e.0) (λ e. e.0) y))
  comparison_kept (Comparison-F.Op o e) = as_read OfComparing (comparison_read (roll-Comparison (Comparison-F.Op o e.0))) (By (comparing o) (reading e.0)) (search (the_lemmas, rules)) (valued_kept (part_read e.0) e.1)
  comparison_kept Comparison-F.IsNone = as_read OfComparing _ (IsNothing true) (search (the_lemmas, rules)) tt
  comparison_kept Comparison-F.IsNotNone = as_read OfComparing _ (IsNothing false) (search (the_lemmas, rules)) tt

  trailer_kept : (y : Held Trailer-F) → OfTrailer (roll-Trailer (map-Trailer _ _ _ _ _ _ _ _ Args Comparison Expr Trailer Arm PowerPart ProductPart SumPart (λ e. e.0) (λ e. e.0) (λ e. e.0) (λ e. e.0) (λ e. e.0) (λ e. e.0) (λ e. e.0) (λ e. e.0) y))
  trailer_kept (Trailer-F.Call a) = as_read OfBehind (trailer_read (roll-Trailer (Trailer-F.Call a.0))) (args_read a.0) (search (the_lemmas, rules)) a.1
  trailer_kept (Trailer-F.Index items) =
      let xs = map (λ e. e.0) items in
      as_read OfBehind (trailer_read (roll-Trailer (Trailer-F.Index xs))) (Index (map valued (map part_read xs))) (search (the_lemmas, rules)) (values_are items)
  trailer_kept (Trailer-F.Attr name) = as_read OfBehind _ (Attr name) (search (the_lemmas, rules)) tt

  arm_kept : (v t : Expr) → OfExpr v → OfExpr t → OfArm (roll-Arm (record { value = v; test = t }))
  arm_kept v t f g = as_read OfChoice (arm_read (roll-Arm (record { value = v; test = t }))) (reading v, reading t) (search (the_lemmas, rules)) (valued_kept (part_read v) f, valued_kept (part_read t) g)

  power_kept : (signs : List Sign) (e : Expr) → OfExpr e → OfPower (roll-PowerPart (record { signs = signs; of = e }))
  power_kept signs e f = as_read (λ (p : List Sign × Reading). OfReading p.1) (power_read (roll-PowerPart (record { signs = signs; of = e }))) (signs, reading e) (search (the_lemmas, rules)) (valued_kept (part_read e) f)

  product_kept : (o : ProductOp) (e : Expr) → OfExpr e → OfProduct (roll-ProductPart (record { op = o; of = e }))
  product_kept o e f = as_read (λ (p : Op × Reading). OfReading p.1) (product_read (roll-ProductPart (record { op = o; of = e }))) (multiplying o, reading e) (search (the_lemmas, rules)) (valued_kept (part_read e) f)

  sum_kept : (o : SumOp) (e : Expr) → OfExpr e → OfSum (roll-SumPart (record { op = o; of = e }))
  sum_kept o e f = as_read (λ (p : Op × Reading). OfReading p.1) (sum_read (roll-SumPart (record { op = o; of = e }))) (adding o, reading e) (search (the_lemmas, rules)) (valued_kept (part_read e) f)

  part_kept : (e : Expr) → OfExpr e
  part_kept = ind-Expr OfArgs OfComparison OfExpr OfTrailer OfArm OfPower OfProduct OfSum
      (λ x y is. subst (λ (z : Args-F Args Comparison Expr Trailer Arm PowerPart ProductPart SumPart). OfArgs (roll-Args z)) is (args_kept y))
      (λ x y is. subst (λ (z : Comparison-F Args Comparison Expr Trailer Arm PowerPart ProductPart SumPart). OfComparison (roll-Comparison z)) is (comparison_kept y))
      (λ x y is. subst (λ (z : Bare). OfExpr (roll-Expr z)) is (as_read OfPart (part_read (roll-Expr (bare y))) (read_layer (bare y)) (read_by (bare y)) (layer_kept y)))
      (λ x y is. subst (λ (z : Trailer-F Args Comparison Expr Trailer Arm PowerPart ProductPart SumPart). OfTrailer (roll-Trailer z)) is (trailer_kept y))
      (λ x y is. subst (λ (z : Arm-F Args Comparison Expr Trailer Arm PowerPart ProductPart SumPart). OfArm (roll-Arm z)) is (arm_kept y.value.0 y.test.0 y.value.1 y.test.1))
      (λ x y is. subst (λ (z : PowerPart-F Args Comparison Expr Trailer Arm PowerPart ProductPart SumPart). OfPower (roll-PowerPart z)) is (power_kept y.signs y.of.0 y.of.1))
      (λ x y is. subst (λ (z : ProductPart-F Args Comparison Expr Trailer Arm PowerPart ProductPart SumPart). OfProduct (roll-ProductPart z)) is (product_kept y.op y.of.0 y.of.1))
      (λ x y is. subst (λ (z : SumPart-F Args Comparison Expr Trailer Arm PowerPart ProductPart SumPart). OfSum (roll-SumPart z)) is (sum_kept y.op y.of.0 y.of.1))

  pub reading_kept : (e : Expr) → OfReading (reading e)
  reading_kept e = valued_kept (part_read e) (part_kept e)
