-- Every form of expression stays within the limits, where its literals are arguments.
use Rattle.std.proofs.Common.{Bool, true, false, ◌≡◌, List, [], ◌∷◌, ◌++◌, Option, None, Some, map, not, Ok, Err, ℕ, zero, suc, sym, subst}
use Rattle.std.specs.Bool.{beq}
use Rattle.mx_value.specs.declared.value.Value.{Value, out-Value}
use Rattle.mx_value.specs.declared.value.Value.TheVariants as made
use Rattle.mx_syntax.specs.Lists.{flat}
use Rattle.mx_syntax.specs.declared.expr.Expr.{Expr, fold-roll-Expr}
use Rattle.mx_syntax.specs.declared.expr.Args.{Args, fold-Args, fold-roll-Args}
use Rattle.mx_syntax.specs.declared.expr.Comparison.{Comparison, fold-Comparison, fold-roll-Comparison}
use Rattle.mx_syntax.specs.declared.expr.Trailer.{Trailer, fold-Trailer, fold-roll-Trailer}
use Rattle.mx_syntax.specs.declared.expr.Arm.{Arm, fold-Arm, fold-roll-Arm}
use Rattle.mx_syntax.specs.declared.expr.PowerPart.{PowerPart, fold-PowerPart, fold-roll-PowerPart}
use Rattle.mx_syntax.specs.declared.expr.ProductPart.{ProductPart, fold-ProductPart, fold-roll-ProductPart}
use Rattle.mx_syntax.specs.declared.expr.SumPart.{SumPart, fold-SumPart, fold-roll-SumPart}
use Rattle.mx_syntax.specs.declared.expr.Sign.{Sign}
use Rattle.mx_syntax.specs.declared.expr.Args.TheOpen.{Args-F, Comparison-F, Expr-F, Trailer-F, Arm-F, PowerPart-F, ProductPart-F, SumPart-F}
use Rattle.mx_syntax.specs.declared.expr.Args.TheViews.{roll-Args, roll-Comparison, roll-Expr, roll-Trailer, roll-Arm, roll-PowerPart, roll-ProductPart, roll-SumPart}
use Rattle.mx_syntax.specs.declared.expr.Args.TheFolds.{map-Args, map-Comparison, map-Expr, map-Trailer, ind-Expr}
use Rattle.mx_edit.specs.declared.key.Key.{Key}
use Rattle.mx_edit.specs.declared.key.KeyResult.{KeyResult}
use Rattle.mx_syntax.specs.declared.op.Op.{Op}
use Rattle.mx_syntax.specs.declared.op.Op.TheVariants as op
use Rattle.mx_ops.specs.declared.builtin.Builtin.TheVariants as builtin
use Rattle.mx_ops.specs.Kinds.{items_of}
use Rattle.mx_ops.specs.Truth.{truth}
use Rattle.mx_ops.specs.Answers.{Answer, made as made_answer}
use Rattle.mx_runs.specs.Runs.{Run}
use Rattle.mx_meaning.specs.Environments.{Env, Reading, computed, within}
use Rattle.mx_meaning.specs.Lookup.{Callee, Called, Function, Part, valued}
use Rattle.mx_meaning.specs.Calls.{called}
use Rattle.mx_meaning.specs.Operations.{adding, multiplying, signing, and_then, of_two, denied, signed, powered}
use Rattle.mx_meaning.specs.Expressions.{values_from, values_beside, tuple_read, powered_by, joined_from, deciding_from, deciding, chosen_from, Comparing, By, IsNothing, nothing_in, compared_from, Generator, if_passed, items_or_fault, gone_over, generated_from, generated, decided_from, decided, called_over, Behind, Call, Over, Index, Attr, applied, applied_from, folded, value_part, first_then, part_read, reading}
use Rattle.mx_meaning.specs.Expressions as meant
use Rattle.mx_state.specs.Proper.{IsArgument}
use Rattle.mx_limit_laws.specs.Values.{Each, IsWithin, IsAnswerWithin}
use Rattle.mx_limit_laws.specs.Literals.{Values, literals_of, args_literals, comparison_literals, trailer_literals, arm_literals, power_literals, product_literals, sum_literals}
use Rattle.mx_limit_laws.specs.Literals as literal
use Rattle.mx_limit_laws.specs.Replies.{HasSmallResults}
use Rattle.mx_limit_laws.proofs.Lists.{IfAny, each_left, each_right, each_append}
use Rattle.mx_limit_laws.proofs.Values.{argument_within, nothing_within, flag_within, items_within}
use Rattle.mx_limit_laws.proofs.Operators.{made_tuple_within, items_of_within, gives_within}
use Rattle.mx_limit_laws.proofs.Staying.{Stays, if_stays, computed_stays, any_stays, tested_stays, IsSmallEnv, within_small}
use Rattle.mx_limit_laws.proofs.Lookups as lookups

-- ---- what operators make of several values

and_then_within : (a : Answer) → IsAnswerWithin a → (f : Value → Answer) → ((v : Value) → IsWithin v → IsAnswerWithin (f v)) → IsAnswerWithin (and_then a f)
and_then_within (Ok v) w f h = h v w
and_then_within (Err kind) w f h = tt

pub two_within : (o : Op) (a b : Value) → IsWithin a → IsWithin b → IsAnswerWithin (of_two o a b)
two_within o a b p q = gives_within o (a ∷ b ∷ []) (p, (q, tt))

denied_within : (count : ℕ) (v : Value) → IsWithin v → IsAnswerWithin (denied count v)
denied_within zero v w = w
denied_within (suc count) v w = and_then_within (denied count v) (denied_within count v w) _ (λ u h. gives_within op.Not (u ∷ []) (h, tt))

signed_within : (signs : List Sign) (v : Value) → IsWithin v → IsAnswerWithin (signed signs v)
signed_within [] v w = w
signed_within (s ∷ signs) v w = and_then_within (signed signs v) (signed_within signs v w) _ (λ u h. gives_within (signing s) (u ∷ []) (h, tt))

powered_within : (base : Value) → IsWithin base → (parts : List (List Sign × Value)) → Each (λ p. IsWithin p.1) parts → IsAnswerWithin (powered base parts)
powered_within base w [] h = w
powered_within base w (p ∷ parts) h =
    and_then_within _ (and_then_within (powered p.1 parts) (powered_within p.1 h.0 parts h.1) (signed p.0) (signed_within p.0)) _ (λ u k. two_within op.Pow base u w k)

-- ---- how the other parts of an expression are read

abbrev args_read : Args → Behind
args_read = folded fold-Args meant.args_step meant.comparison_step meant.expr_step meant.behind_step meant.arm_step meant.power_step meant.product_step meant.sum_step

abbrev comparison_read : Comparison → Comparing
comparison_read = folded fold-Comparison meant.args_step meant.comparison_step meant.expr_step meant.behind_step meant.arm_step meant.power_step meant.product_step meant.sum_step

abbrev trailer_read : Trailer → Behind
trailer_read = folded fold-Trailer meant.args_step meant.comparison_step meant.expr_step meant.behind_step meant.arm_step meant.power_step meant.product_step meant.sum_step

abbrev arm_read : Arm → Reading × Reading
arm_read = folded fold-Arm meant.args_step meant.comparison_step meant.expr_step meant.behind_step meant.arm_step meant.power_step meant.product_step meant.sum_step

abbrev power_read : PowerPart → List Sign × Reading
power_read = folded fold-PowerPart meant.args_step meant.comparison_step meant.expr_step meant.behind_step meant.arm_step meant.power_step meant.product_step meant.sum_step

abbrev product_read : ProductPart → Op × Reading
product_read = folded fold-ProductPart meant.args_step meant.comparison_step meant.expr_step meant.behind_step meant.arm_step meant.power_step meant.product_step meant.sum_step

abbrev sum_read : SumPart → Op × Reading
sum_read = folded fold-SumPart meant.args_step meant.comparison_step meant.expr_step meant.behind_step meant.arm_step meant.power_step meant.product_step meant.sum_step

-- a layer of parts: how it is read, and its literals
abbrev pub Bare : meant.Former → Type 0
Bare F = F Args Comparison Expr Trailer Arm PowerPart ProductPart SumPart

abbrev expr_layer : Bare Expr-F → Part
expr_layer z = meant.expr_step (map-Expr Args Comparison Expr Trailer Arm PowerPart ProductPart SumPart _ _ _ _ _ _ _ _ args_read comparison_read part_read trailer_read arm_read power_read product_read sum_read z)

abbrev pub expr_values : Bare Expr-F → Values
expr_values z = literal.expr_step (map-Expr Args Comparison Expr Trailer Arm PowerPart ProductPart SumPart _ _ _ _ _ _ _ _ args_literals comparison_literals literals_of trailer_literals arm_literals power_literals product_literals sum_literals z)

abbrev args_layer : Bare Args-F → Behind
args_layer z = meant.args_step (map-Args Args Comparison Expr Trailer Arm PowerPart ProductPart SumPart _ _ _ _ _ _ _ _ args_read comparison_read part_read trailer_read arm_read power_read product_read sum_read z)

abbrev pub args_values : Bare Args-F → Values
args_values z = literal.args_step (map-Args Args Comparison Expr Trailer Arm PowerPart ProductPart SumPart _ _ _ _ _ _ _ _ args_literals comparison_literals literals_of trailer_literals arm_literals power_literals product_literals sum_literals z)

abbrev comparison_layer : Bare Comparison-F → Comparing
comparison_layer z = meant.comparison_step (map-Comparison Args Comparison Expr Trailer Arm PowerPart ProductPart SumPart _ _ _ _ _ _ _ _ args_read comparison_read part_read trailer_read arm_read power_read product_read sum_read z)

abbrev pub comparison_values : Bare Comparison-F → Values
comparison_values z = literal.comparison_step (map-Comparison Args Comparison Expr Trailer Arm PowerPart ProductPart SumPart _ _ _ _ _ _ _ _ args_literals comparison_literals literals_of trailer_literals arm_literals power_literals product_literals sum_literals z)

abbrev trailer_layer : Bare Trailer-F → Behind
trailer_layer z = meant.behind_step (map-Trailer Args Comparison Expr Trailer Arm PowerPart ProductPart SumPart _ _ _ _ _ _ _ _ args_read comparison_read part_read trailer_read arm_read power_read product_read sum_read z)

abbrev pub trailer_values : Bare Trailer-F → Values
trailer_values z = literal.trailer_step (map-Trailer Args Comparison Expr Trailer Arm PowerPart ProductPart SumPart _ _ _ _ _ _ _ _ args_literals comparison_literals literals_of trailer_literals arm_literals power_literals product_literals sum_literals z)

-- what is kept of how a part is read, where its literals are arguments
by_layer : {R : Type 0} → (P : R → Type 0) (r s : R) → r ≡ s → (vs ws : Values) → vs ≡ ws → (Each IsArgument ws → P s) → Each IsArgument vs → P r
by_layer P r s e vs ws f h l = subst P (sym e) (h (subst (Each IsArgument) f l))

-- each is read so, where the literals of all are arguments
each_read : {X R : Type 0} → (P : R → Type 0) (read : X → R) (values : X → Values) (xs : List ((x : X) × (Each IsArgument (values x) → P (read x)))) → Each IsArgument (flat (map values (map (λ x. x.0) xs))) → Each P (map read (map (λ x. x.0) xs))
each_read P read values [] l = tt
each_read P read values (x ∷ xs) l = (x.1 (each_left IsArgument (values x.0) _ l), each_read P read values xs (each_right IsArgument (values x.0) _ l))

module _ (look : Key → KeyResult) (small : HasSmallResults look) where
  abbrev Onwards : (Value → Run) → Type 0
  Onwards go = (v : Value) → IsWithin v → Stays look (go v)

  abbrev pub OfReading : Reading → Type 0
  OfReading read = (env : Env) → IsSmallEnv env → (go : Value → Run) → Onwards go → Stays look (read env go)

  abbrev IsSmallCallee : Callee → Type 0
  IsSmallCallee (Called v) = IsWithin v
  IsSmallCallee (Function b) = Unit {0}

  abbrev OfPart : Part → Type 0
  OfPart part = (env : Env) → IsSmallEnv env → (go : Callee → Run) → ((c : Callee) → IsSmallCallee c → Stays look (go c)) → Stays look (part env go)

  -- ---- parts in a row

  values_stay : (parts : List Reading) → Each OfReading parts → (done : List Value) → Each IsWithin done → (env : Env) → IsSmallEnv env → (go : List Value → Run) → ((vs : List Value) → Each IsWithin vs → Stays look (go vs)) → Stays look (values_from parts done env go)
  values_stay [] a done d env e go k = k done d
  values_stay (p ∷ parts) a done d env e go k = a.0 env e _ (λ v w. values_stay parts a.1 (done ++ v ∷ []) (each_append IsWithin done (v ∷ []) d (w, tt)) env e go k)

  pub beside_stay : {X : Type 0} (parts : List (X × Reading)) → Each (λ p. OfReading p.1) parts → (done : List (X × Value)) → Each (λ p. IsWithin p.1) done → (env : Env) → IsSmallEnv env → (go : List (X × Value) → Run)
      → ((vs : List (X × Value)) → Each (λ p. IsWithin p.1) vs → Stays look (go vs)) → Stays look (values_beside parts done env go)
  beside_stay [] a done d env e go k = k done d
  beside_stay (p ∷ parts) a done d env e go k = a.0 env e _ (λ v w. beside_stay parts a.1 (done ++ (p.0, v) ∷ []) (each_append (λ q. IsWithin q.1) done ((p.0, v) ∷ []) d (w, tt)) env e go k)

  tuple_stays : (items : List Reading) → Each OfReading items → OfReading (tuple_read items)
  tuple_stays items a env e go k = values_stay items a [] tt env e _ (λ vs w. computed_stays look (made_answer (made.Tup vs)) (made_tuple_within vs w) env go k)

  powered_stays : (parts : List (List Sign × Reading)) → Each (λ p. OfReading p.1) parts → (base : Value) → IsWithin base → OfReading (powered_by parts base)
  powered_stays parts a base b env e go k = beside_stay parts a [] tt env e _ (λ ps w. computed_stays look (powered base ps) (powered_within base b ps w) env go k)

  joined_stays : (parts : List (Op × Reading)) → Each (λ p. OfReading p.1) parts → (total : Value) → IsWithin total → OfReading (joined_from parts total)
  joined_stays [] a total t env e go k = k total t
  joined_stays (p ∷ parts) a total t env e go k = a.0 env e _ (λ v w. computed_stays look (of_two p.0 total v) (two_within p.0 total v t w) env _ (λ s h. joined_stays parts a.1 s h env e go k))

  deciding_from_stays : (decides : Bool) (parts : List Reading) → Each OfReading parts → (v : Value) → IsWithin v → OfReading (deciding_from decides parts v)
  deciding_from_stays decides [] a v w env e go k = k v w
  deciding_from_stays decides (p ∷ parts) a v w env e go k =
      any_stays look (truth v) env _ (λ b. if_stays look (beq b decides) _ _ (k v w) (a.0 env e _ (λ u h. deciding_from_stays decides parts a.1 u h env e go k)))

  deciding_stays : (decides : Bool) (parts : List Reading) → Each OfReading parts → OfReading (deciding decides parts)
  deciding_stays decides [] a env e go k = tt
  deciding_stays decides (p ∷ parts) a env e go k = a.0 env e _ (λ v w. deciding_from_stays decides parts a.1 v w env e go k)

  abbrev OfChoice : Reading × Reading → Type 0
  OfChoice a = OfReading a.0 × OfReading a.1

  chosen_stays : (arms : List (Reading × Reading)) → Each OfChoice arms → (last : Reading) → OfReading last → OfReading (chosen_from arms last)
  chosen_stays [] a last l env e go k = l env e go k
  chosen_stays (x ∷ arms) a last l env e go k = a.0.1 env e _ (λ t w. tested_stays look (truth t) _ _ env (a.0.0 env e go k) (chosen_stays arms a.1 last l env e go k))

  -- ---- comparisons

  abbrev OfComparing : Comparing → Type 0
  OfComparing (By o right) = OfReading right
  OfComparing (IsNothing asked) = Unit {0}

  compared_stays : (rest : List Comparing) → Each OfComparing rest → (left : Value) → IsWithin left → OfReading (compared_from rest left)
  compared_stays [] a left l env e go k = k (made.Flag true) (flag_within true)
  compared_stays (By o right ∷ rest) a left l env e go k =
      a.0 env e _ (λ v w. computed_stays look (of_two o left v) (two_within o left v l w) env _ (λ holds h. tested_stays look (truth holds) _ _ env (compared_stays rest a.1 v w env e go k) (k (made.Flag false) (flag_within false))))
  compared_stays (IsNothing asked ∷ rest) a left l env e go k =
      if_stays look (beq (nothing_in (out-Value left)) asked) _ _ (compared_stays rest a.1 made.Nothing nothing_within env e go k) (k (made.Flag false) (flag_within false))

  -- ---- generators

  abbrev OfTest : Option Reading → Type 0
  OfTest None = Unit {0}
  OfTest (Some test) = OfReading test

  abbrev OfGenerator : Generator → Type 0
  OfGenerator g = OfReading g.element × OfReading g.over × OfTest g.test

  passed_stays : (test : Option Reading) → OfTest test → (env : Env) → IsSmallEnv env → (given other : Run) → Stays look given → Stays look other → Stays look (if_passed test env given other)
  passed_stays None a env e given other x y = x
  passed_stays (Some test) a env e given other x y = a env e _ (λ t w. tested_stays look (truth t) given other env x y)

  pub items_stay : (items : Option (List Value)) → IfAny (λ vs. IsWithin (made.Tup vs)) items → (env : Env) (go : List Value → Run) → ((vs : List Value) → Each IsWithin vs → Stays look (go vs)) → Stays look (items_or_fault items env go)
  items_stay (Some items) w env go k = k items (items_within items w)
  items_stay None w env go k = tt

  module _ (g : Generator) (a : OfGenerator g) where
    over_stays : (env : Env) → IsSmallEnv env → (go : List Value → Run) → ((vs : List Value) → Each IsWithin vs → Stays look (go vs)) → Stays look (gone_over g env go)
    over_stays env e go k = a.1 env e _ (λ v w. items_stay (items_of v) (items_of_within v w) env go k)

    generated_from_stays : (vs : List Value) → Each IsWithin vs → (done : List Value) → Each IsWithin done → (env : Env) → IsSmallEnv env → (go : List Value → Run) → ((ws : List Value) → Each IsWithin ws → Stays look (go ws)) → Stays look (generated_from g vs done env go)
    generated_from_stays [] h done d env e go k = k done d
    generated_from_stays (v ∷ vs) h done d env e go k =
        passed_stays g.test a.2 (within g.name v env) (within_small env e g.name v h.0) _ _
        (a.0 (within g.name v env) (within_small env e g.name v h.0) _ (λ u w. generated_from_stays vs h.1 (done ++ u ∷ []) (each_append IsWithin done (u ∷ []) d (w, tt)) env e go k))
        (generated_from_stays vs h.1 done d env e go k)

    generated_stays : OfReading (generated g)
    generated_stays env e go k = over_stays env e _ (λ vs h. generated_from_stays vs h [] tt env e _ (λ items w. computed_stays look (made_answer (made.Tup items)) (made_tuple_within items w) env go k))

    decided_from_stays : (decides : Bool) (vs : List Value) → Each IsWithin vs → OfReading (decided_from decides g vs)
    decided_from_stays decides [] h env e go k = k (made.Flag (not decides)) (flag_within (not decides))
    decided_from_stays decides (v ∷ vs) h env e go k =
        passed_stays g.test a.2 (within g.name v env) (within_small env e g.name v h.0) _ _
        (a.0 (within g.name v env) (within_small env e g.name v h.0) _ (λ u w. any_stays look (truth u) env _ (λ b. if_stays look (beq b decides) _ _ (k (made.Flag decides) (flag_within decides)) (decided_from_stays decides vs h.1 env e go k))))
        (decided_from_stays decides vs h.1 env e go k)

    decided_stays : (decides : Bool) → OfReading (decided decides g)
    decided_stays decides env e go k = over_stays env e _ (λ vs h. decided_from_stays decides vs h env e go k)

    as_tuple_stays : (c : Callee) → IsSmallCallee c → OfReading (λ env go. generated g env (λ v. called c (v ∷ []) env go))
    as_tuple_stays c w env e go k = generated_stays env e _ (λ v h. lookups.called_stays look small c w (v ∷ []) (h, tt) env e go k)

    called_over_stays : (c : Callee) → IsSmallCallee c → OfReading (called_over c g)
    called_over_stays (Called v) w env e go k = as_tuple_stays (Called v) w env e go k
    called_over_stays (Function builtin.Any) w env e go k = decided_stays true env e go k
    called_over_stays (Function builtin.All) w env e go k = decided_stays false env e go k
    called_over_stays (Function builtin.Abs) w env e go k = as_tuple_stays (Function builtin.Abs) tt env e go k
    called_over_stays (Function builtin.Fixed) w env e go k = as_tuple_stays (Function builtin.Fixed) tt env e go k
    called_over_stays (Function builtin.Int) w env e go k = as_tuple_stays (Function builtin.Int) tt env e go k
    called_over_stays (Function builtin.Len) w env e go k = as_tuple_stays (Function builtin.Len) tt env e go k
    called_over_stays (Function builtin.Max) w env e go k = as_tuple_stays (Function builtin.Max) tt env e go k
    called_over_stays (Function builtin.Min) w env e go k = as_tuple_stays (Function builtin.Min) tt env e go k
    called_over_stays (Function builtin.Nroot) w env e go k = as_tuple_stays (Function builtin.Nroot) tt env e go k
    called_over_stays (Function builtin.Range) w env e go k = as_tuple_stays (Function builtin.Range) tt env e go k
    called_over_stays (Function builtin.Round) w env e go k = as_tuple_stays (Function builtin.Round) tt env e go k
    called_over_stays (Function builtin.Str) w env e go k = as_tuple_stays (Function builtin.Str) tt env e go k
    called_over_stays (Function builtin.Sum) w env e go k = as_tuple_stays (Function builtin.Sum) tt env e go k
    called_over_stays (Function builtin.Tuple) w env e go k = as_tuple_stays (Function builtin.Tuple) tt env e go k

  -- ---- what stands behind a part

  abbrev OfBehind : Behind → Type 0
  OfBehind (Call args) = Each OfReading args
  OfBehind (Over g) = OfGenerator g
  OfBehind (Index args) = Each OfReading args
  OfBehind (Attr name) = Unit {0}

  applied_stays : (b : Behind) → OfBehind b → (c : Callee) → IsSmallCallee c → OfReading (applied b c)
  applied_stays (Call args) a c w env e go k = values_stay args a [] tt env e _ (λ vs h. lookups.called_stays look small c w vs h env e go k)
  applied_stays (Over g) a c w env e go k = called_over_stays g a c w env e go k
  applied_stays (Index args) a c w env e go k = lookups.as_value_stays look small c w env e _ (λ v x. values_stay args a [] tt env e _ (λ vs h. lookups.indexed_stays look small v x vs h env e go k))
  applied_stays (Attr name) a c w env e go k = lookups.as_value_stays look small c w env e _ (λ v x. lookups.attribute_stays look small v x name env e go k)

  applied_from_stays : (more : List Behind) → Each OfBehind more → (c : Callee) → IsSmallCallee c → OfPart (applied_from more c)
  applied_from_stays [] a c w env e go k = k c w
  applied_from_stays (b ∷ more) a c w env e go k = applied_stays b a.0 c w env e _ (λ v h. applied_from_stays more a.1 (Called v) h env e go k)

  -- ---- layers

  abbrev OfExpr : Expr → Type 0
  OfExpr x = Each IsArgument (literals_of x) → OfPart (part_read x)

  abbrev OfArgs : Args → Type 0
  OfArgs x = Each IsArgument (args_literals x) → OfBehind (args_read x)

  abbrev OfComparison : Comparison → Type 0
  OfComparison x = Each IsArgument (comparison_literals x) → OfComparing (comparison_read x)

  abbrev OfTrailer : Trailer → Type 0
  OfTrailer x = Each IsArgument (trailer_literals x) → OfBehind (trailer_read x)

  abbrev OfArm : Arm → Type 0
  OfArm x = Each IsArgument (arm_literals x) → OfChoice (arm_read x)

  abbrev OfPower : PowerPart → Type 0
  OfPower x = Each IsArgument (power_literals x) → OfReading (power_read x).1

  abbrev OfProduct : ProductPart → Type 0
  OfProduct x = Each IsArgument (product_literals x) → OfReading (product_read x).1

  abbrev OfSum : SumPart → Type 0
  OfSum x = Each IsArgument (sum_literals x) → OfReading (sum_read x).1

  -- a layer, each part with what holds of it
  abbrev Held : meant.Former → Type 0
  Held F = F ((a : Args) × OfArgs a) ((c : Comparison) × OfComparison c) ((e : Expr) × OfExpr e) ((t : Trailer) × OfTrailer t) ((a : Arm) × OfArm a) ((p : PowerPart) × OfPower p) ((p : ProductPart) × OfProduct p) ((p : SumPart) × OfSum p)

  valued_stays : (part : Part) → OfPart part → OfReading (valued part)
  valued_stays part h env e go k = lookups.valued_stays look small part h env e go k

  values_are : (items : List ((e : Expr) × OfExpr e)) → Each IsArgument (flat (map literals_of (map (λ e. e.0) items))) → Each OfReading (map valued (map part_read (map (λ e. e.0) items)))
  values_are [] l = tt
  values_are (x ∷ items) l = (valued_stays (part_read x.0) (x.1 (each_left IsArgument (literals_of x.0) _ l)), values_are items (each_right IsArgument (literals_of x.0) _ l))

  value_part_stays : (read : Reading) → OfReading read → OfPart (value_part read)
  value_part_stays read h env e go k = h env e _ (λ v w. k (Called v) w)

  first_then_stays : (first : Part) → OfPart first → (rest : Value → Reading) → ((v : Value) → IsWithin v → OfReading (rest v)) → OfPart (first_then first rest)
  first_then_stays first h rest r env e go k = lookups.valued_stays look small first h env e _ (λ v w. r v w env e _ (λ u x. k (Called u) x))

  literal_read : (v : Value) → IsWithin v → OfReading (λ env go. go v)
  literal_read v w env e go k = k v w

  computed_read : (f : Value → Answer) → ((v : Value) → IsWithin v → IsAnswerWithin (f v)) → (v : Value) → IsWithin v → OfReading (λ env go. computed (f v) env go)
  computed_read f h v w env e go k = computed_stays look (f v) (h v w) env go k

  abbrev bare : Held Expr-F → Bare Expr-F
  bare y = map-Expr _ _ _ _ _ _ _ _ Args Comparison Expr Trailer Arm PowerPart ProductPart SumPart (λ e. e.0) (λ e. e.0) (λ e. e.0) (λ e. e.0) (λ e. e.0) (λ e. e.0) (λ e. e.0) (λ e. e.0) y

  layer_stays : (y : Held Expr-F) → Each IsArgument (expr_values (bare y)) → OfPart (expr_layer (bare y))
  layer_stays (Expr-F.Lit v) l = value_part_stays (λ env go. go v) (literal_read v (argument_within v l.0))
  layer_stays (Expr-F.Name name) l = lookups.named_stays look small name
  layer_stays (Expr-F.Tuple items) l =
      let reads : List Reading = map valued (map part_read (map (λ e. e.0) items)) in
      value_part_stays (tuple_read reads) (tuple_stays reads (values_are items l))
  layer_stays (Expr-F.Cond arms last) l =
      let xs : List Arm = map (λ a. a.0) arms in
      value_part_stays (chosen_from (map arm_read xs) (valued (part_read last.0)))
      (chosen_stays (map arm_read xs) (each_read OfChoice arm_read arm_literals arms (each_left IsArgument (flat (map arm_literals xs)) (literals_of last.0) l)) (valued (part_read last.0))
      (valued_stays (part_read last.0) (last.1 (each_right IsArgument (flat (map arm_literals xs)) (literals_of last.0) l))))
  layer_stays (Expr-F.Or items) l =
      let reads : List Reading = map valued (map part_read (map (λ e. e.0) items)) in
      value_part_stays (deciding true reads) (deciding_stays true reads (values_are items l))
  layer_stays (Expr-F.And items) l =
      let reads : List Reading = map valued (map part_read (map (λ e. e.0) items)) in
      value_part_stays (deciding false reads) (deciding_stays false reads (values_are items l))
  layer_stays (Expr-F.Not count part) l = first_then_stays (part_read part.0) (part.1 l) (λ v. computed (denied count v)) (computed_read (denied count) (denied_within count))
  layer_stays (Expr-F.Compare first rest) l =
      let xs : List Comparison = map (λ c. c.0) rest in
      first_then_stays (part_read first.0) (first.1 (each_left IsArgument (literals_of first.0) (flat (map comparison_literals xs)) l)) (compared_from (map comparison_read xs))
      (compared_stays (map comparison_read xs) (each_read OfComparing comparison_read comparison_literals rest (each_right IsArgument (literals_of first.0) (flat (map comparison_literals xs)) l)))
  layer_stays (Expr-F.Sum first rest) l =
      let xs : List SumPart = map (λ p. p.0) rest in
      first_then_stays (part_read first.0) (first.1 (each_left IsArgument (literals_of first.0) (flat (map sum_literals xs)) l)) (joined_from (map sum_read xs))
      (joined_stays (map sum_read xs) (each_read (λ p. OfReading p.1) sum_read sum_literals rest (each_right IsArgument (literals_of first.0) (flat (map sum_literals xs)) l)))
  layer_stays (Expr-F.Product first rest) l =
      let xs : List ProductPart = map (λ p. p.0) rest in
      first_then_stays (part_read first.0) (first.1 (each_left IsArgument (literals_of first.0) (flat (map product_literals xs)) l)) (joined_from (map product_read xs))
      (joined_stays (map product_read xs) (each_read (λ p. OfReading p.1) product_read product_literals rest (each_right IsArgument (literals_of first.0) (flat (map product_literals xs)) l)))
  layer_stays (Expr-F.Signed signs part) l = first_then_stays (part_read part.0) (part.1 l) (λ v. computed (signed signs v)) (computed_read (signed signs) (signed_within signs))
  layer_stays (Expr-F.Power first rest) l =
      let xs : List PowerPart = map (λ p. p.0) rest in
      first_then_stays (part_read first.0) (first.1 (each_left IsArgument (literals_of first.0) (flat (map power_literals xs)) l)) (powered_by (map power_read xs))
      (powered_stays (map power_read xs) (each_read (λ p. OfReading p.1) power_read power_literals rest (each_right IsArgument (literals_of first.0) (flat (map power_literals xs)) l)))
  layer_stays (Expr-F.Post first more) l =
      let xs : List Trailer = map (λ t. t.0) more in
      λ env e go k.
      first.1 (each_left IsArgument (literals_of first.0) (flat (map trailer_literals xs)) l) env e _
      (λ c w. applied_from_stays (map trailer_read xs) (each_read OfBehind trailer_read trailer_literals more (each_right IsArgument (literals_of first.0) (flat (map trailer_literals xs)) l)) c w env e go k)

  abbrev bare_args : Held Args-F → Bare Args-F
  bare_args y = map-Args _ _ _ _ _ _ _ _ Args Comparison Expr Trailer Arm PowerPart ProductPart SumPart (λ e. e.0) (λ e. e.0) (λ e. e.0) (λ e. e.0) (λ e. e.0) (λ e. e.0) (λ e. e.0) (λ e. e.0) y

  args_stay : (y : Held Args-F) → Each IsArgument (args_values (bare_args y)) → OfBehind (args_layer (bare_args y))
  args_stay (Args-F.List items) l = values_are items l
  args_stay (Args-F.Gen element name over None) l =
      let r = each_right IsArgument (literals_of element.0) _ l in
      (valued_stays (part_read element.0) (element.1 (each_left IsArgument (literals_of element.0) _ l)), valued_stays (part_read over.0) (over.1 (each_left IsArgument (literals_of over.0) _ r)), tt)
  args_stay (Args-F.Gen element name over (Some test)) l =
      let r = each_right IsArgument (literals_of element.0) _ l in (
        valued_stays (part_read element.0) (element.1 (each_left IsArgument (literals_of element.0) _ l)),
        valued_stays (part_read over.0) (over.1 (each_left IsArgument (literals_of over.0) _ r)),
        valued_stays (part_read test.0) (test.1 (each_right IsArgument (literals_of over.0) _ r)),
      )

  abbrev bare_comparison : Held Comparison-F → Bare Comparison-F
  bare_comparison y = map-Comparison _ _ _ _ _ _ _ _ Args Comparison Expr Trailer Arm PowerPart ProductPart SumPart (λ e. e.0) (λ e. e.0) (λ e. e.0) (λ e. e.0) (λ e. e.0) (λ e. e.0) (λ e. e.0) (λ e. e.0) y

  comparison_stays : (y : Held Comparison-F) → Each IsArgument (comparison_values (bare_comparison y)) → OfComparing (comparison_layer (bare_comparison y))
  comparison_stays (Comparison-F.Op o x) l = valued_stays (part_read x.0) (x.1 l)
  comparison_stays Comparison-F.IsNone l = tt
  comparison_stays Comparison-F.IsNotNone l = tt

  abbrev bare_trailer : Held Trailer-F → Bare Trailer-F
  bare_trailer y = map-Trailer _ _ _ _ _ _ _ _ Args Comparison Expr Trailer Arm PowerPart ProductPart SumPart (λ e. e.0) (λ e. e.0) (λ e. e.0) (λ e. e.0) (λ e. e.0) (λ e. e.0) (λ e. e.0) (λ e. e.0) y

  trailer_stays : (y : Held Trailer-F) → Each IsArgument (trailer_values (bare_trailer y)) → OfBehind (trailer_layer (bare_trailer y))
  trailer_stays (Trailer-F.Call a) l = a.1 l
  trailer_stays (Trailer-F.Index items) l = values_are items l
  trailer_stays (Trailer-F.Attr name) l = tt

  read_of : (z : Bare Expr-F) → (Each IsArgument (expr_values z) → OfPart (expr_layer z)) → OfExpr (roll-Expr z)
  read_of z h =
      by_layer OfPart (part_read (roll-Expr z)) (expr_layer z) (fold-roll-Expr _ _ _ _ _ _ _ _ meant.args_step meant.comparison_step meant.expr_step meant.behind_step meant.arm_step meant.power_step meant.product_step meant.sum_step z)
      (literals_of (roll-Expr z)) (expr_values z) (fold-roll-Expr _ _ _ _ _ _ _ _ literal.args_step literal.comparison_step literal.expr_step literal.trailer_step literal.arm_step literal.power_step literal.product_step literal.sum_step z) h

  args_of : (z : Bare Args-F) → (Each IsArgument (args_values z) → OfBehind (args_layer z)) → OfArgs (roll-Args z)
  args_of z h =
      by_layer OfBehind (args_read (roll-Args z)) (args_layer z) (fold-roll-Args _ _ _ _ _ _ _ _ meant.args_step meant.comparison_step meant.expr_step meant.behind_step meant.arm_step meant.power_step meant.product_step meant.sum_step z)
      (args_literals (roll-Args z)) (args_values z) (fold-roll-Args _ _ _ _ _ _ _ _ literal.args_step literal.comparison_step literal.expr_step literal.trailer_step literal.arm_step literal.power_step literal.product_step literal.sum_step z) h

  comparison_of : (z : Bare Comparison-F) → (Each IsArgument (comparison_values z) → OfComparing (comparison_layer z)) → OfComparison (roll-Comparison z)
  comparison_of z h =
      by_layer OfComparing (comparison_read (roll-Comparison z)) (comparison_layer z) (fold-roll-Comparison _ _ _ _ _ _ _ _ meant.args_step meant.comparison_step meant.expr_step meant.behind_step meant.arm_step meant.power_step meant.product_step meant.sum_step z)
      (comparison_literals (roll-Comparison z)) (comparison_values z) (fold-roll-Comparison _ _ _ _ _ _ _ _ literal.args_step literal.comparison_step literal.expr_step literal.trailer_step literal.arm_step literal.power_step literal.product_step literal.sum_step z) h

  trailer_of : (z : Bare Trailer-F) → (Each IsArgument (trailer_values z) → OfBehind (trailer_layer z)) → OfTrailer (roll-Trailer z)
  trailer_of z h =
      by_layer OfBehind (trailer_read (roll-Trailer z)) (trailer_layer z) (fold-roll-Trailer _ _ _ _ _ _ _ _ meant.args_step meant.comparison_step meant.expr_step meant.behind_step meant.arm_step meant.power_step meant.product_step meant.sum_step z)
      (trailer_literals (roll-Trailer z)) (trailer_values z) (fold-roll-Trailer _ _ _ _ _ _ _ _ literal.args_step literal.comparison_step literal.expr_step literal.trailer_step literal.arm_step literal.power_step literal.product_step literal.sum_step z) h

  arm_of : (value test : Expr) → OfExpr value → OfExpr test → OfArm (roll-Arm (record { value = value; test = test }))
  arm_of value test f g =
      by_layer OfChoice (arm_read (roll-Arm (record { value = value; test = test }))) (reading value, reading test) (fold-roll-Arm _ _ _ _ _ _ _ _ meant.args_step meant.comparison_step meant.expr_step meant.behind_step meant.arm_step meant.power_step meant.product_step meant.sum_step (record { value = value; test = test }))
      (arm_literals (roll-Arm (record { value = value; test = test }))) (literals_of value ++ literals_of test) (fold-roll-Arm _ _ _ _ _ _ _ _ literal.args_step literal.comparison_step literal.expr_step literal.trailer_step literal.arm_step literal.power_step literal.product_step literal.sum_step (record { value = value; test = test }))
      (λ l. (valued_stays (part_read value) (f (each_left IsArgument (literals_of value) (literals_of test) l)), valued_stays (part_read test) (g (each_right IsArgument (literals_of value) (literals_of test) l))))

  power_of : (z : Bare PowerPart-F) → OfExpr z.of → OfPower (roll-PowerPart z)
  power_of z f =
      by_layer (λ (p : List Sign × Reading). OfReading p.1) (power_read (roll-PowerPart z)) (z.signs, reading z.of) (fold-roll-PowerPart _ _ _ _ _ _ _ _ meant.args_step meant.comparison_step meant.expr_step meant.behind_step meant.arm_step meant.power_step meant.product_step meant.sum_step z)
      (power_literals (roll-PowerPart z)) (literals_of z.of) (fold-roll-PowerPart _ _ _ _ _ _ _ _ literal.args_step literal.comparison_step literal.expr_step literal.trailer_step literal.arm_step literal.power_step literal.product_step literal.sum_step z)
      (λ l. valued_stays (part_read z.of) (f l))

  product_of : (z : Bare ProductPart-F) → OfExpr z.of → OfProduct (roll-ProductPart z)
  product_of z f =
      by_layer (λ (p : Op × Reading). OfReading p.1) (product_read (roll-ProductPart z)) (multiplying z.op, reading z.of) (fold-roll-ProductPart _ _ _ _ _ _ _ _ meant.args_step meant.comparison_step meant.expr_step meant.behind_step meant.arm_step meant.power_step meant.product_step meant.sum_step z)
      (product_literals (roll-ProductPart z)) (literals_of z.of) (fold-roll-ProductPart _ _ _ _ _ _ _ _ literal.args_step literal.comparison_step literal.expr_step literal.trailer_step literal.arm_step literal.power_step literal.product_step literal.sum_step z)
      (λ l. valued_stays (part_read z.of) (f l))

  sum_of : (z : Bare SumPart-F) → OfExpr z.of → OfSum (roll-SumPart z)
  sum_of z f =
      by_layer (λ (p : Op × Reading). OfReading p.1) (sum_read (roll-SumPart z)) (adding z.op, reading z.of) (fold-roll-SumPart _ _ _ _ _ _ _ _ meant.args_step meant.comparison_step meant.expr_step meant.behind_step meant.arm_step meant.power_step meant.product_step meant.sum_step z)
      (sum_literals (roll-SumPart z)) (literals_of z.of) (fold-roll-SumPart _ _ _ _ _ _ _ _ literal.args_step literal.comparison_step literal.expr_step literal.trailer_step literal.arm_step literal.power_step literal.product_step literal.sum_step z)
      (λ l. valued_stays (part_read z.of) (f l))

  part_stays : (x : Expr) → OfExpr x
  part_stays = ind-Expr OfArgs OfComparison OfExpr OfTrailer OfArm OfPower OfProduct OfSum
      (λ x y is. subst (λ (z : Bare Args-F). OfArgs (roll-Args z)) is (args_of (bare_args y) (args_stay y)))
      (λ x y is. subst (λ (z : Bare Comparison-F). OfComparison (roll-Comparison z)) is (comparison_of (bare_comparison y) (comparison_stays y)))
      (λ x y is. subst (λ (z : Bare Expr-F). OfExpr (roll-Expr z)) is (read_of (bare y) (layer_stays y)))
      (λ x y is. subst (λ (z : Bare Trailer-F). OfTrailer (roll-Trailer z)) is (trailer_of (bare_trailer y) (trailer_stays y)))
      (λ x y is. subst (λ (z : Bare Arm-F). OfArm (roll-Arm z)) is (arm_of y.value.0 y.test.0 y.value.1 y.test.1))
      (λ x y is. subst (λ (z : Bare PowerPart-F). OfPower (roll-PowerPart z)) is (power_of (record { signs = y.signs; of = y.of.0 }) y.of.1))
      (λ x y is. subst (λ (z : Bare ProductPart-F). OfProduct (roll-ProductPart z)) is (product_of (record { op = y.op; of = y.of.0 }) y.of.1))
      (λ x y is. subst (λ (z : Bare SumPart-F). OfSum (roll-SumPart z)) is (sum_of (record { op = y.op; of = y.of.0 }) y.of.1))

  -- an expression whose literals are arguments
  pub reading_stays : (x : Expr) → Each IsArgument (literals_of x) → OfReading (reading x)
  reading_stays x l = valued_stays (part_read x) (part_stays x l)
