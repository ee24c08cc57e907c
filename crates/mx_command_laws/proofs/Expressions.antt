-- The literals of an expression that is spelled are arguments.
use Rattle.std.proofs.Common.{◌≡◌, ℕ, ◌+◌, ◌≤◌, zero, suc, List, [], ◌∷◌, ◌++◌, Option, None, Some, true, false, pos, map, length, sym, subst, arith}
use Rattle.mx_value.specs.declared.value.Value.{Value}
use Rattle.mx_value.specs.declared.value.Value.TheVariants as value
use Rattle.mx_syntax.specs.Lists.{flat}
use Rattle.mx_syntax.specs.declared.expr.Expr.{Expr, fold-roll-Expr}
use Rattle.mx_syntax.specs.declared.expr.Expr.TheVariants as expr
use Rattle.mx_syntax.specs.declared.expr.Args.{Args, fold-roll-Args}
use Rattle.mx_syntax.specs.declared.expr.Args.TheVariants as args
use Rattle.mx_syntax.specs.declared.expr.Trailer.{Trailer, fold-roll-Trailer}
use Rattle.mx_syntax.specs.declared.expr.Trailer.TheVariants as trailer
use Rattle.mx_syntax.specs.declared.expr.Comparison.{Comparison as Comparisons, fold-roll-Comparison}
use Rattle.mx_syntax.specs.declared.expr.Comparison.TheVariants as comparison
use Rattle.mx_syntax.specs.declared.expr.Arm.{fold-roll-Arm}
use Rattle.mx_syntax.specs.declared.expr.PowerPart.{fold-roll-PowerPart}
use Rattle.mx_syntax.specs.declared.expr.ProductPart.{fold-roll-ProductPart}
use Rattle.mx_syntax.specs.declared.expr.SumPart.{fold-roll-SumPart}
use Rattle.mx_syntax.specs.declared.expr.Args.TheOpen.{Args-F, Comparison-F, Expr-F, Trailer-F}
use Rattle.mx_syntax.specs.declared.expr.Args.TheViews.{roll-Args, roll-Comparison, roll-Expr, roll-Trailer}
use Rattle.mx_grammar.specs.declared.word.Word.{Word}
use Rattle.mx_grammar.specs.declared.word.Word.TheVariants.{Name, Symbol}
use Rattle.mx_grammar.specs.declared.word.Symbol.TheVariants as symbol
use Rattle.mx_grammar.specs.Grammar.{Spelling, Parts, Listed}
use Rattle.mx_expression.specs.Operands.{Atom, Test, Arguments, Trailing, Post, PowerTail, Power, SignedOf}
use Rattle.mx_expression.specs.Chains.{ProductTail, Product, SumTail, Sum, CompareTail, Compare, Not, AndTail, And, OrTail, Or, ArmText, Conditional}
use Rattle.mx_expression.specs.Expressions.{Ors, Expressions}
use Rattle.mx_state.specs.Proper.{IsArgument}
use Rattle.mx_limit_laws.specs.Values.{Each}
use Rattle.mx_limit_laws.specs.Literals.{Values, literals_of, args_literals, comparison_literals, trailer_literals, arm_literals, power_literals, product_literals, sum_literals}
use Rattle.mx_limit_laws.specs.Literals as literal
use Rattle.mx_limit_laws.proofs.Lists.{each_append, each_left, each_right}
use Rattle.mx_limit_laws.proofs.Expressions.{Bare, expr_values, args_values, comparison_values, trailer_values}
use Rattle.mx_command_laws.proofs.Words.{IsShort, AreShort}
use Rattle.mx_command_laws.proofs.Literals.{nothing_atom, flag_atom, int_atom, fix_atom, text_atom, atom_argument}

abbrev pub AreLiterals : Values → Type 0
AreLiterals vs = Each IsArgument vs

-- what is spelled by short texts has small literals
abbrev pub SmallBy : {A : Type 0} → (A → Values) → Spelling A → Type 0
SmallBy {A} values S = (u : List Word) (x : A) → AreShort u → S u x → AreLiterals (values x)

abbrev pub Small : Spelling Expr → Type 0
Small S = SmallBy literals_of S

-- ---- tokens and lists

pub left : (u v : List Word) → AreShort (u ++ v) → AreShort u
left u v h = each_left IsShort u v h

pub right : (u v : List Word) → AreShort (u ++ v) → AreShort v
right u v h = each_right IsShort u v h

pub both_small : (vs ws : Values) → AreLiterals vs → AreLiterals ws → AreLiterals (vs ++ ws)
both_small vs ws h k = each_append IsArgument vs ws h k

pub listed_small : {A : Type 0} (values : A → Values) (S : Spelling A) → SmallBy values S → SmallBy (λ xs. flat (map values xs)) (Listed S)
listed_small values S h _ _ a Listed.none = tt
listed_small values S h _ _ a (Listed.one {u} {x} p) = both_small (values x) [] (h u x a p) tt
listed_small values S h _ _ a (Listed.more {u} {v} {x} {xs} p q) = both_small (values x) (flat (map values xs)) (h u x (left u (Symbol symbol.Comma ∷ v) a) p) (listed_small values S h v xs (right u (Symbol symbol.Comma ∷ v) a).1 q)

pub parts_small : {A : Type 0} (values : A → Values) (S : Spelling A) → SmallBy values S → SmallBy (λ xs. flat (map values xs)) (Parts S)
parts_small values S h _ _ a Parts.none = tt
parts_small values S h _ _ a (Parts.more {u} {v} {x} {xs} p q) = both_small (values x) (flat (map values xs)) (h u x (left u v a) p) (parts_small values S h v xs (right u v a) q)

-- ---- each form by its layer

expr_small : (z : Bare Expr-F) (x : Expr) → roll-Expr z ≡ x → AreLiterals (expr_values z) → AreLiterals (literals_of x)
expr_small z x is h =
    subst (λ (y : Expr). AreLiterals (literals_of y)) is
    (subst AreLiterals (sym (fold-roll-Expr _ _ _ _ _ _ _ _ literal.args_step literal.comparison_step literal.expr_step literal.trailer_step literal.arm_step literal.power_step literal.product_step literal.sum_step z)) h)

args_small : (z : Bare Args-F) (x : Args) → roll-Args z ≡ x → AreLiterals (args_values z) → AreLiterals (args_literals x)
args_small z x is h =
    subst (λ (y : Args). AreLiterals (args_literals y)) is
    (subst AreLiterals (sym (fold-roll-Args _ _ _ _ _ _ _ _ literal.args_step literal.comparison_step literal.expr_step literal.trailer_step literal.arm_step literal.power_step literal.product_step literal.sum_step z)) h)

comparison_small : (z : Bare Comparison-F) (x : Comparisons) → roll-Comparison z ≡ x → AreLiterals (comparison_values z) → AreLiterals (comparison_literals x)
comparison_small z x is h =
    subst (λ (y : Comparisons). AreLiterals (comparison_literals y)) is
    (subst AreLiterals (sym (fold-roll-Comparison _ _ _ _ _ _ _ _ literal.args_step literal.comparison_step literal.expr_step literal.trailer_step literal.arm_step literal.power_step literal.product_step literal.sum_step z)) h)

trailer_small : (z : Bare Trailer-F) (x : Trailer) → roll-Trailer z ≡ x → AreLiterals (trailer_values z) → AreLiterals (trailer_literals x)
trailer_small z x is h =
    subst (λ (y : Trailer). AreLiterals (trailer_literals y)) is
    (subst AreLiterals (sym (fold-roll-Trailer _ _ _ _ _ _ _ _ literal.args_step literal.comparison_step literal.expr_step literal.trailer_step literal.arm_step literal.power_step literal.product_step literal.sum_step z)) h)

lit_small : (v : Value) → IsArgument v → AreLiterals (literals_of (expr.Lit v))
lit_small v a = expr_small (Expr-F.Lit v) (expr.Lit v) (expr.rolls-Lit v) (a, tt)

-- ---- operands

abbrev test_literals : Option Expr → Values
test_literals None = []
test_literals (Some x) = literals_of x

generator_small : (n : List ℕ) (element over : Expr) (test : Option Expr) → AreLiterals (literals_of element) → AreLiterals (literals_of over) → AreLiterals (test_literals test) → AreLiterals (args_literals (args.Gen element n over test))
generator_small n element over None h k t =
    args_small (Args-F.Gen element n over None) (args.Gen element n over None) (args.rolls-Gen element n over None) (both_small (literals_of element) (literals_of over ++ []) h (both_small (literals_of over) [] k tt))
generator_small n element over (Some test) h k t =
    args_small (Args-F.Gen element n over (Some test)) (args.Gen element n over (Some test)) (args.rolls-Gen element n over (Some test))
    (both_small (literals_of element) (literals_of over ++ literals_of test) h (both_small (literals_of over) (literals_of test) k t))

module _ (Inside In : Spelling Expr) (inside : Small Inside) (in_or : Small In) where
  atom_small : Small (Atom Inside)
  atom_small _ _ a (Atom.name {n}) = expr_small (Expr-F.Name n) (expr.Name n) (expr.rolls-Name n) tt
  atom_small _ _ a (Atom.int {n} h) = lit_small (value.Int (pos n)) (atom_argument (value.Int (pos n)) 1 (int_atom (pos n)) (omega arith))
  atom_small _ _ a (Atom.fix {z}) = lit_small (value.Fix z) (atom_argument (value.Fix z) 1 (fix_atom z) (omega arith))
  atom_small _ _ a (Atom.text {t}) = lit_small (value.Text t) (atom_argument (value.Text t) (1 + length t) (text_atom t) (let few : length t ≤ 65536 = a.0 in omega arith))
  atom_small _ _ a Atom.none = lit_small value.Nothing (atom_argument value.Nothing 1 nothing_atom (omega arith))
  atom_small _ _ a Atom.holds = lit_small (value.Flag true) (atom_argument (value.Flag true) 1 (flag_atom true) (omega arith))
  atom_small _ _ a Atom.fails = lit_small (value.Flag false) (atom_argument (value.Flag false) 1 (flag_atom false) (omega arith))
  atom_small _ _ a (Atom.group {u} {x} h) = inside u x (left u (Symbol symbol.CloseRound ∷ []) a.1) h
  atom_small _ _ a Atom.empty = expr_small (Expr-F.Tuple []) (expr.Tuple []) (expr.rolls-Tuple []) tt
  atom_small _ _ a (Atom.tuple {u} {v} {x} {xs} h k) =
      let items : List Word = u ++ Symbol symbol.Comma ∷ v in
      let b = left items (Symbol symbol.CloseRound ∷ []) a.1 in
      expr_small (Expr-F.Tuple (x ∷ xs)) (expr.Tuple (x ∷ xs)) (expr.rolls-Tuple (x ∷ xs)) (listed_small literals_of Inside inside items (x ∷ xs) b (Listed.more h k))

  test_small : SmallBy test_literals (Test In)
  test_small _ _ a Test.none = tt
  test_small _ _ a (Test.test {u} {x} h) = in_or u x a.1 h

  arguments_small : SmallBy args_literals (Arguments Inside In)
  arguments_small _ _ a (Arguments.list {u} {xs} h) = args_small (Args-F.List xs) (args.List xs) (args.rolls-List xs) (listed_small literals_of Inside inside u xs a h)
  arguments_small _ _ a (Arguments.generator {u} {v} {w} {n} {element} {over} {test} h k t) =
      let b = right u (Symbol symbol.For ∷ Name n ∷ Symbol symbol.In ∷ v ++ w) a in
      generator_small n element over test (inside u element (left u (Symbol symbol.For ∷ Name n ∷ Symbol symbol.In ∷ v ++ w) a) h) (in_or v over (left v w b.1.1.1) k) (test_small w test (right v w b.1.1.1) t)

  trailing_small : SmallBy trailer_literals (Trailing Inside In)
  trailing_small _ _ a (Trailing.call {u = u} {a = x} h) = trailer_small (Trailer-F.Call x) (trailer.Call x) (trailer.rolls-Call x) (arguments_small u x (left u (Symbol symbol.CloseRound ∷ []) a.1) h)
  trailing_small _ _ a (Trailing.index {u} {x} {xs} h) =
      trailer_small (Trailer-F.Index (x ∷ xs)) (trailer.Index (x ∷ xs)) (trailer.rolls-Index (x ∷ xs)) (listed_small literals_of Inside inside u (x ∷ xs) (left u (Symbol symbol.CloseSquare ∷ []) a.1) h)
  trailing_small _ _ a (Trailing.attribute {n}) = trailer_small (Trailer-F.Attr n) (trailer.Attr n) (trailer.rolls-Attr n) tt

  post_small : Small (Post Inside In)
  post_small _ _ a (Post.alone {u} {x} h) = atom_small u x a h
  post_small _ _ a (Post.chain {u} {v} {x} {y} {ys} h k) =
      expr_small (Expr-F.Post x (y ∷ ys)) (expr.Post x (y ∷ ys)) (expr.rolls-Post x (y ∷ ys))
      (both_small (literals_of x) (flat (map trailer_literals (y ∷ ys))) (atom_small u x (left u v a) h) (parts_small trailer_literals (Trailing Inside In) trailing_small v (y ∷ ys) (right u v a) k))

  power_tail_small : SmallBy power_literals (PowerTail Inside In)
  power_tail_small _ _ a (PowerTail.power {u} {v} {signs} {x} h k) =
      subst AreLiterals (sym (fold-roll-PowerPart _ _ _ _ _ _ _ _ literal.args_step literal.comparison_step literal.expr_step literal.trailer_step literal.arm_step literal.power_step literal.product_step literal.sum_step (record { signs = signs; of = x })))
      (post_small v x (right u v a.1) k)

  power_small : Small (Power Inside In)
  power_small _ _ a (Power.alone {u} {x} h) = post_small u x a h
  power_small _ _ a (Power.chain {u} {v} {x} {y} {ys} h k) =
      expr_small (Expr-F.Power x (y ∷ ys)) (expr.Power x (y ∷ ys)) (expr.rolls-Power x (y ∷ ys))
      (both_small (literals_of x) (flat (map power_literals (y ∷ ys))) (post_small u x (left u v a) h) (parts_small power_literals (PowerTail Inside In) power_tail_small v (y ∷ ys) (right u v a) k))

  signed_small : Small (SignedOf Inside In)
  signed_small _ _ a (SignedOf.alone {u} {x} h) = power_small u x a h
  signed_small _ _ a (SignedOf.signs {u} {v} {s} {ss} {x} h k) = expr_small (Expr-F.Signed (s ∷ ss) x) (expr.Signed (s ∷ ss) x) (expr.rolls-Signed (s ∷ ss) x) (power_small v x (right u v a) k)

-- ---- chains

module _ (S : Spelling Expr) (part : Small S) where
  product_tail_small : SmallBy product_literals (ProductTail S)
  product_tail_small _ _ a (ProductTail.tail {u} {v} {op} {x} h k) =
      subst AreLiterals (sym (fold-roll-ProductPart _ _ _ _ _ _ _ _ literal.args_step literal.comparison_step literal.expr_step literal.trailer_step literal.arm_step literal.power_step literal.product_step literal.sum_step (record { op = op; of = x })))
      (part v x (right u v a) k)

  product_small : Small (Product S)
  product_small _ _ a (Product.alone {u} {x} h) = part u x a h
  product_small _ _ a (Product.chain {u} {v} {x} {y} {ys} h k) =
      expr_small (Expr-F.Product x (y ∷ ys)) (expr.Product x (y ∷ ys)) (expr.rolls-Product x (y ∷ ys))
      (both_small (literals_of x) (flat (map product_literals (y ∷ ys))) (part u x (left u v a) h) (parts_small product_literals (ProductTail S) product_tail_small v (y ∷ ys) (right u v a) k))

  sum_tail_small : SmallBy sum_literals (SumTail S)
  sum_tail_small _ _ a (SumTail.tail {u} {v} {op} {x} h k) =
      subst AreLiterals (sym (fold-roll-SumPart _ _ _ _ _ _ _ _ literal.args_step literal.comparison_step literal.expr_step literal.trailer_step literal.arm_step literal.power_step literal.product_step literal.sum_step (record { op = op; of = x })))
      (part v x (right u v a) k)

  sum_small : Small (Sum S)
  sum_small _ _ a (Sum.alone {u} {x} h) = part u x a h
  sum_small _ _ a (Sum.chain {u} {v} {x} {y} {ys} h k) =
      expr_small (Expr-F.Sum x (y ∷ ys)) (expr.Sum x (y ∷ ys)) (expr.rolls-Sum x (y ∷ ys))
      (both_small (literals_of x) (flat (map sum_literals (y ∷ ys))) (part u x (left u v a) h) (parts_small sum_literals (SumTail S) sum_tail_small v (y ∷ ys) (right u v a) k))

  compare_tail_small : SmallBy comparison_literals (CompareTail S)
  compare_tail_small _ _ a (CompareTail.tail {u} {v} {op} {x} h k) = comparison_small (Comparison-F.Op op x) (comparison.Op op x) (comparison.rolls-Op op x) (part v x (right u v a) k)
  compare_tail_small _ _ a CompareTail.none = comparison_small Comparison-F.IsNone comparison.IsNone comparison.rolls-IsNone tt
  compare_tail_small _ _ a CompareTail.some = comparison_small Comparison-F.IsNotNone comparison.IsNotNone comparison.rolls-IsNotNone tt

  compare_small : Small (Compare S)
  compare_small _ _ a (Compare.alone {u} {x} h) = part u x a h
  compare_small _ _ a (Compare.chain {u} {v} {x} {y} {ys} h k) =
      expr_small (Expr-F.Compare x (y ∷ ys)) (expr.Compare x (y ∷ ys)) (expr.rolls-Compare x (y ∷ ys))
      (both_small (literals_of x) (flat (map comparison_literals (y ∷ ys))) (part u x (left u v a) h) (parts_small comparison_literals (CompareTail S) compare_tail_small v (y ∷ ys) (right u v a) k))

  not_small : Small (Not S)
  not_small _ _ a (Not.alone {u} {x} h) = part u x a h
  not_small _ _ a (Not.nots {u} {v} {n} {x} h k) = expr_small (Expr-F.Not (suc n) x) (expr.Not (suc n) x) (expr.rolls-Not (suc n) x) (part v x (right u v a) k)

  and_tail_small : SmallBy literals_of (AndTail S)
  and_tail_small _ _ a (AndTail.tail {u} {x} h) = part u x a.1 h

  and_small : Small (And S)
  and_small _ _ a (And.alone {u} {x} h) = part u x a h
  and_small _ _ a (And.chain {u} {v} {x} {y} {ys} h k) =
      expr_small (Expr-F.And (x ∷ y ∷ ys)) (expr.And (x ∷ y ∷ ys)) (expr.rolls-And (x ∷ y ∷ ys))
      (both_small (literals_of x) (flat (map literals_of (y ∷ ys))) (part u x (left u v a) h) (parts_small literals_of (AndTail S) and_tail_small v (y ∷ ys) (right u v a) k))

  or_tail_small : SmallBy literals_of (OrTail S)
  or_tail_small _ _ a (OrTail.tail {u} {x} h) = part u x a.1 h

  or_small : Small (Or S)
  or_small _ _ a (Or.alone {u} {x} h) = part u x a h
  or_small _ _ a (Or.chain {u} {v} {x} {y} {ys} h k) =
      expr_small (Expr-F.Or (x ∷ y ∷ ys)) (expr.Or (x ∷ y ∷ ys)) (expr.rolls-Or (x ∷ y ∷ ys))
      (both_small (literals_of x) (flat (map literals_of (y ∷ ys))) (part u x (left u v a) h) (parts_small literals_of (OrTail S) or_tail_small v (y ∷ ys) (right u v a) k))

  arm_small : SmallBy arm_literals (ArmText S)
  arm_small _ _ a (ArmText.arm {u} {v} {value} {test} h k) =
      let b = left (u ++ Symbol symbol.If ∷ v) (Symbol symbol.Else ∷ []) a in
      subst AreLiterals (sym (fold-roll-Arm _ _ _ _ _ _ _ _ literal.args_step literal.comparison_step literal.expr_step literal.trailer_step literal.arm_step literal.power_step literal.product_step literal.sum_step (record { value = value; test = test })))
      (both_small (literals_of value) (literals_of test) (part u value (left u (Symbol symbol.If ∷ v) b) h) (part v test (right u (Symbol symbol.If ∷ v) b).1 k))

  conditional_small : Small (Conditional S)
  conditional_small _ _ a (Conditional.alone {u} {x} h) = part u x a h
  conditional_small _ _ a (Conditional.chain {u} {v} {y} {ys} {x} h k) =
      expr_small (Expr-F.Cond (y ∷ ys) x) (expr.Cond (y ∷ ys) x) (expr.rolls-Cond (y ∷ ys) x)
      (both_small (flat (map arm_literals (y ∷ ys))) (literals_of x) (parts_small arm_literals (ArmText S) arm_small u (y ∷ ys) (left u v a) h) (part v x (right u v a) k))

-- ---- expressions

ors_small : (levels : ℕ) → Small (Ors levels)
ors_small zero u x a h = absurd h
ors_small (suc d) u x a h =
    let signed = signed_small (Conditional (Ors d)) (Ors d) (conditional_small (Ors d) (ors_small d)) (ors_small d) in
    or_small _ (and_small _ (not_small _ (compare_small _ (sum_small _ (product_small _ signed))))) u x a h

pub expressions_small : (levels : ℕ) → Small (Expressions levels)
expressions_small levels = conditional_small (Ors levels) (ors_small levels)
