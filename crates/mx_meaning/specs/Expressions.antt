-- How each form of expression is read: its parts from the left, each computed once.
use Rattle.std.specs.Prelude.{List, [], ◌∷◌, ◌++◌, map, Option, Some, None, option_map, Bool, true, false, not, if◌then◌else◌}
use Rattle.std.specs.Bool.{beq}
use Rattle.mx_value.specs.declared.label.Label.{Label}
use Rattle.mx_value.specs.declared.value.Value.{Value, out-Value}
use Rattle.mx_value.specs.declared.value.Value.TheVariants.{Nothing, Flag, Tup}
use Rattle.mx_value.specs.declared.value.Segment.TheOpen.{Value-F}
use Rattle.mx_value.specs.declared.fault.FaultKind.TheVariants.{TypeMismatch}
use Rattle.mx_syntax.specs.declared.expr.Expr.{Expr, fold-Expr}
use Rattle.mx_syntax.specs.declared.expr.Args.TheOpen.{Args-F, Comparison-F, Expr-F, Trailer-F, Arm-F, PowerPart-F, ProductPart-F, SumPart-F}
use Rattle.mx_syntax.specs.declared.expr.Sign.{Sign}
use Rattle.mx_syntax.specs.declared.op.Op.{Op}
use Rattle.mx_ops.specs.declared.builtin.Builtin.TheVariants as builtin
use Rattle.mx_ops.specs.Kinds.{Content, items_of}
use Rattle.mx_ops.specs.Truth.{truth}
use Rattle.mx_ops.specs.Answers.{made}
use Rattle.mx_runs.specs.Runs.{Run}
use Rattle.mx_meaning.specs.Environments.{Env, Reading, fault, computed, tested, within}
use Rattle.mx_meaning.specs.Lookup.{Callee, Called, Function, Part, named, valued, as_value, attribute}
use Rattle.mx_meaning.specs.Calls.{called, indexed}
use Rattle.mx_meaning.specs.Operations.{comparing, adding, multiplying, of_two, denied, signed, powered}

-- ---- parts in a row

-- the values of parts, computed from the left, behind these
abbrev pub values_from : List Reading → List Value → Env → (List Value → Run) → Run
values_from [] done env go = go done
values_from (p ∷ parts) done env go = p env (λ v. values_from parts (done ++ v ∷ []) env go)

-- the same where each part has something beside it
abbrev pub values_beside : {X : Type 0} → List (X × Reading) → List (X × Value) → Env → (List (X × Value) → Run) → Run
values_beside [] done env go = go done
values_beside (p ∷ parts) done env go = p.1 env (λ v. values_beside parts (done ++ (p.0, v) ∷ []) env go)

-- a tuple is made when all its items are computed
abbrev pub tuple_read : List Reading → Reading
tuple_read items env go = values_from items [] env (λ vs. computed (made (Tup vs)) env go)

-- the further parts of a power, computed from the left, before they are joined
abbrev pub powered_by : List (List Sign × Reading) → Value → Reading
powered_by parts base env go = values_beside parts [] env (λ ps. computed (powered base ps) env go)

-- the parts of a sum or a product, joined from the left
abbrev pub joined_from : List (Op × Reading) → Value → Reading
joined_from [] total env go = go total
joined_from (p ∷ parts) total env go =
    p.1 env (λ v. computed (of_two p.0 total v) env (λ next. joined_from parts next env go))

-- Parts that are joined by `or` where the flag is true, by `and` where it is false, behind one of this value: the first
-- whose truth is the flag decides, or else the last.
abbrev pub deciding_from : Bool → List Reading → Value → Reading
deciding_from decides [] v env go = go v
deciding_from decides (p ∷ parts) v env go =
    computed (truth v) env (λ b. if beq b decides then go v else p env (λ w. deciding_from decides parts w env go))

-- there are two parts or more; of none there is no value
abbrev pub deciding : Bool → List Reading → Reading
deciding decides [] env go = fault TypeMismatch env
deciding decides (p ∷ parts) env go = p env (λ v. deciding_from decides parts v env go)

-- the arms of a conditional, each its value and its test, and its last part: a test is computed before its value
abbrev pub chosen_from : List (Reading × Reading) → Reading → Reading
chosen_from [] last env go = last env go
chosen_from (a ∷ arms) last env go = a.1 env (λ t. tested (truth t) (a.0 env go) (chosen_from arms last env go) env)

-- ---- comparisons

-- a further part of a chain of comparisons: an operator with its right part, or whether the left part is None or is not
pub data Comparing : Type 0 where
  By : Op → Reading → Comparing
  IsNothing : Bool → Comparing

-- the value is None
abbrev pub nothing_in : Content → Bool
nothing_in Value-F.Nothing = true
nothing_in other = false

-- The comparisons behind a part of this value: each with the part before it, and the first that is false ends the chain.
-- Behind `is None` the chain goes on with None.
abbrev pub compared_from : List Comparing → Value → Reading
compared_from [] left env go = go (Flag true)
compared_from (By op right ∷ rest) left env go =
    right env (λ v. computed (of_two op left v) env (λ holds.
    tested (truth holds) (compared_from rest v env go) (go (Flag false)) env))
compared_from (IsNothing asked ∷ rest) left env go =
    if beq (nothing_in (out-Value left)) asked then compared_from rest Nothing env go else go (Flag false)

-- ---- generators

-- `element for name in over if test`
pub record Generator : Type 0 where
  pub element : Reading
  pub name : Label
  pub over : Reading
  pub test : Option Reading

-- the one run where there is no test or it holds, else the other
abbrev pub if_passed : Option Reading → Env → Run → Run → Run
if_passed None env given other = given
if_passed (Some test) env given other = test env (λ t. tested (truth t) given other env)

-- on with the items of a tuple
abbrev pub items_or_fault : Option (List Value) → Env → (List Value → Run) → Run
items_or_fault (Some items) env go = go items
items_or_fault None env go = fault TypeMismatch env

-- what a generator goes over is computed outside its scope
abbrev pub gone_over : Generator → Env → (List Value → Run) → Run
gone_over g env go = g.over env (λ v. items_or_fault (items_of v) env go)

-- the items that a generator makes of these, behind those that it has made: each in a scope with its name
abbrev pub generated_from : Generator → List Value → List Value → Env → (List Value → Run) → Run
generated_from g [] done env go = go done
generated_from g (v ∷ vs) done env go =
    if_passed g.test (within g.name v env)
    (g.element (within g.name v env) (λ w. generated_from g vs (done ++ w ∷ []) env go))
    (generated_from g vs done env go)

-- a generator is the tuple of its items, which is made when all are computed
abbrev pub generated : Generator → Reading
generated g env go =
    gone_over g env (λ vs. generated_from g vs [] env (λ items. computed (made (Tup items)) env go))

-- `any` where the flag is true, `all` where it is false, over a generator: no item is computed after the first that decides
abbrev pub decided_from : Bool → Generator → List Value → Reading
decided_from decides g [] env go = go (Flag (not decides))
decided_from decides g (v ∷ vs) env go =
    if_passed g.test (within g.name v env)
    (g.element (within g.name v env) (λ w. computed (truth w) env (λ b.
    if beq b decides then go (Flag decides) else decided_from decides g vs env go)))
    (decided_from decides g vs env go)

-- the same, over what the generator goes over
abbrev pub decided : Bool → Generator → Reading
decided decides g env go = gone_over g env (λ vs. decided_from decides g vs env go)

-- a generator as the one argument of a call
abbrev pub called_over : Callee → Generator → Reading
called_over (Function builtin.Any) g env go = decided true g env go
called_over (Function builtin.All) g env go = decided false g env go
called_over callee g env go = generated g env (λ v. called callee (v ∷ []) env go)

-- ---- what stands behind a part

-- the arguments of a call, a generator as its argument, subscripts, or an attribute
pub data Behind : Type 0 where
  Call : List Reading → Behind
  Over : Generator → Behind
  Index : List Reading → Behind
  Attr : Label → Behind

-- One of these behind a part: a call computes the part, then its arguments, then calls. A function that a formula can
-- always call is no value, so it is only called.
abbrev pub applied : Behind → Callee → Reading
applied (Call args) callee env go = values_from args [] env (λ vs. called callee vs env go)
applied (Over g) callee env go = called_over callee g env go
applied (Index args) callee env go = as_value callee env (λ v. values_from args [] env (λ vs. indexed v vs env go))
applied (Attr name) callee env go = as_value callee env (λ v. attribute v name env go)

-- what stands behind a part, in the order of the text
abbrev pub applied_from : List Behind → Callee → Part
applied_from [] callee env go = go callee
applied_from (b ∷ more) callee env go = applied b callee env (λ v. applied_from more (Called v) env go)

-- ---- each form of part, given what its own parts are

-- something made of eight types
abbrev pub Former : Type 1
Former = Type 0 → Type 0 → Type 0 → Type 0 → Type 0 → Type 0 → Type 0 → Type 0 → Type 0

-- It, made of what is here read in their place: of arguments, comparisons, expressions, what stands behind a part, arms, and
-- the parts of powers, of products and of sums.
abbrev pub Layer : Former → Type 0
Layer F = F Behind Comparing Part Behind (Reading × Reading) (List Sign × Reading) (Op × Reading) (Op × Reading)

-- a fold over expressions, at these
abbrev pub folded : {F : Former} → ((A B C D E G H I : Type 0) → F A B C D E G H I) → Layer F
folded f = f _ _ _ _ _ _ _ _

-- the arguments of a call: a list, or a generator
abbrev pub args_step : Layer Args-F → Behind
args_step (Args-F.List items) = Call (map valued items)
args_step (Args-F.Gen element name over test) =
    Over (record { element = valued element; name = name; over = valued over; test = option_map valued test })

-- a further part of a chain of comparisons
abbrev pub comparison_step : Layer Comparison-F → Comparing
comparison_step (Comparison-F.Op op right) = By (comparing op) (valued right)
comparison_step Comparison-F.IsNone = IsNothing true
comparison_step Comparison-F.IsNotNone = IsNothing false

-- what stands behind a part
abbrev pub behind_step : Layer Trailer-F → Behind
behind_step (Trailer-F.Call args) = args
behind_step (Trailer-F.Index items) = Index (map valued items)
behind_step (Trailer-F.Attr name) = Attr name

-- an arm of a conditional
abbrev pub arm_step : Layer Arm-F → Reading × Reading
arm_step arm = (valued arm.value, valued arm.test)

-- a further part of a power, with its signs
abbrev pub power_step : Layer PowerPart-F → List Sign × Reading
power_step part = (part.signs, valued part.of)

-- a further part of a product, with its operator
abbrev pub product_step : Layer ProductPart-F → Op × Reading
product_step part = (multiplying part.op, valued part.of)

-- a further part of a sum, with its operator
abbrev pub sum_step : Layer SumPart-F → Op × Reading
sum_step part = (adding part.op, valued part.of)

-- a part that is a value
abbrev pub value_part : Reading → Part
value_part read env go = read env (λ v. go (Called v))

-- the first part, and then what is made of its value
abbrev pub first_then : Part → (Value → Reading) → Part
first_then first rest = value_part (λ env go. valued first env (λ v. rest v env go))

-- Each form of expression. A name, and what has nothing behind it that makes it a value, may be a function that is called.
abbrev pub expr_step : Layer Expr-F → Part
expr_step (Expr-F.Lit v) = value_part (λ env go. go v)
expr_step (Expr-F.Name name) = named name
expr_step (Expr-F.Tuple items) = value_part (tuple_read (map valued items))
expr_step (Expr-F.Cond arms last) = value_part (chosen_from arms (valued last))
expr_step (Expr-F.Or parts) = value_part (deciding true (map valued parts))
expr_step (Expr-F.And parts) = value_part (deciding false (map valued parts))
expr_step (Expr-F.Not count part) = first_then part (λ v. computed (denied count v))
expr_step (Expr-F.Compare first rest) = first_then first (compared_from rest)
expr_step (Expr-F.Sum first rest) = first_then first (joined_from rest)
expr_step (Expr-F.Product first rest) = first_then first (joined_from rest)
expr_step (Expr-F.Signed signs part) = first_then part (λ v. computed (signed signs v))
expr_step (Expr-F.Power first rest) = first_then first (powered_by rest)
expr_step (Expr-F.Post first more) = λ env go. first env (λ c. applied_from more c env go)

-- an expression, as a part that may be called
abbrev pub part_read : Expr → Part
part_read = folded fold-Expr args_step comparison_step expr_step behind_step arm_step power_step product_step sum_step

-- an expression in an environment, going on with its value
abbrev pub reading : Expr → Reading
reading e = valued (part_read e)
