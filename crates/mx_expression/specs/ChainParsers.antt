-- What the code of chains computes.
use Rattle.std.specs.Prelude.{ℕ, zero, suc, ◌+◌, Bool, ◌||◌, List, [], ◌∷◌, ◌++◌}
use Rattle.mx_syntax.specs.declared.expr.Expr.{Expr}
use Rattle.mx_syntax.specs.declared.expr.Expr.TheVariants as expr
use Rattle.mx_syntax.specs.declared.expr.Arm.{Arm, roll-Arm}
use Rattle.mx_syntax.specs.declared.expr.Comparison.{Comparison}
use Rattle.mx_syntax.specs.declared.expr.Comparison.TheVariants as made
use Rattle.mx_syntax.specs.declared.expr.CmpOp.{CmpOp}
use Rattle.mx_syntax.specs.declared.expr.CmpOp.TheVariants as compares
use Rattle.mx_syntax.specs.declared.expr.SumPart.{SumPart, roll-SumPart}
use Rattle.mx_syntax.specs.declared.expr.SumOp.{SumOp}
use Rattle.mx_syntax.specs.declared.expr.SumOp.TheVariants as sums
use Rattle.mx_syntax.specs.declared.expr.ProductPart.{ProductPart, roll-ProductPart}
use Rattle.mx_syntax.specs.declared.expr.ProductOp.{ProductOp}
use Rattle.mx_syntax.specs.declared.expr.ProductOp.TheVariants as products
use Rattle.mx_grammar.specs.declared.word.Word.{Word}
use Rattle.mx_grammar.specs.declared.word.Symbol.{Symbol}
use Rattle.mx_grammar.specs.declared.word.Symbol.TheVariants as symbol
use Rattle.mx_grammar.specs.Words.{is}
use Rattle.mx_grammar.specs.Reading.{Parser, ◌>>=◌, ◌>>◌, pure, refuse, expect, choose, many, Turn, On, Done, turning}

-- ---- parts that are gathered, and operators

-- parts while the next token is one of these, each added to what was gathered before
abbrev pub gather_turn : {A S : Type 0} → (Word → Bool) → Parser A → (S → A → S) → S → Parser (Turn S S)
gather_turn is part add s = choose is (part >>= λ a. pure (On (add s a))) (pure (Done s))

abbrev pub gather : {A S : Type 0} → (Word → Bool) → Parser A → (S → A → S) → S → Parser S
gather is part add = turning (gather_turn is part add)

-- what each of these symbols says
abbrev pub one_of : {A : Type 0} → List (Symbol × A) → Parser A
one_of [] = refuse
one_of (e ∷ es) = choose (is e.0) (expect e.0 >> pure e.1) (one_of es)

-- ---- trees: a chain of one part is that part

abbrev pub product_part_of : ProductOp → Expr → ProductPart
product_part_of op x = roll-ProductPart (record { op = op; of = x })

abbrev pub product_of : Expr → List ProductPart → Expr
product_of x [] = x
product_of x (y ∷ ys) = expr.Product x (y ∷ ys)

abbrev pub sum_part_of : SumOp → Expr → SumPart
sum_part_of op x = roll-SumPart (record { op = op; of = x })

abbrev pub sum_of : Expr → List SumPart → Expr
sum_of x [] = x
sum_of x (y ∷ ys) = expr.Sum x (y ∷ ys)

abbrev pub compare_of : Expr → List Comparison → Expr
compare_of x [] = x
compare_of x (y ∷ ys) = expr.Compare x (y ∷ ys)

abbrev pub not_of : ℕ → Expr → Expr
not_of zero x = x
not_of (suc n) x = expr.Not (suc n) x

abbrev pub and_of : Expr → List Expr → Expr
and_of x [] = x
and_of x (y ∷ ys) = expr.And (x ∷ y ∷ ys)

abbrev pub or_of : Expr → List Expr → Expr
or_of x [] = x
or_of x (y ∷ ys) = expr.Or (x ∷ y ∷ ys)

abbrev pub conditional_of : List Arm → Expr → Expr
conditional_of [] x = x
conditional_of (y ∷ ys) x = expr.Cond (y ∷ ys) x

-- ---- products

abbrev pub product_ops : List (Symbol × ProductOp)
product_ops = (symbol.Times, products.Times) ∷ (symbol.Over, products.Over) ∷ (symbol.Floor, products.Floor) ∷ (symbol.Rem, products.Rem) ∷ []

abbrev pub is_product : Word → Bool
is_product t = is symbol.Times t || (is symbol.Over t || (is symbol.Floor t || is symbol.Rem t))

unfoldable pub product_op : Parser ProductOp
product_op = one_of product_ops

unfoldable pub product_part : Parser Expr → Parser ProductPart
product_part part = product_op >>= λ op. part >>= λ x. pure (product_part_of op x)

abbrev pub product_parts : Parser Expr → Parser (List ProductPart)
product_parts part = many is_product (product_part part)

unfoldable pub product : Parser Expr → Parser Expr
product part = part >>= λ x. product_parts part >>= λ ys. pure (product_of x ys)

-- ---- sums

abbrev pub sum_ops : List (Symbol × SumOp)
sum_ops = (symbol.Plus, sums.Plus) ∷ (symbol.Minus, sums.Minus) ∷ []

abbrev pub is_sum : Word → Bool
is_sum t = is symbol.Plus t || is symbol.Minus t

unfoldable pub sum_op : Parser SumOp
sum_op = one_of sum_ops

unfoldable pub sum_part : Parser Expr → Parser SumPart
sum_part part = sum_op >>= λ op. part >>= λ x. pure (sum_part_of op x)

abbrev pub sum_parts : Parser Expr → Parser (List SumPart)
sum_parts part = many is_sum (sum_part part)

unfoldable pub sum : Parser Expr → Parser Expr
sum part = part >>= λ x. sum_parts part >>= λ ys. pure (sum_of x ys)

-- ---- comparisons

abbrev pub compare_ops : List (Symbol × CmpOp)
compare_ops =
    (symbol.Lt, compares.Lt) ∷ (symbol.Le, compares.Le) ∷ (symbol.Gt, compares.Gt) ∷ (symbol.Ge, compares.Ge) ∷ (symbol.Eq, compares.Eq) ∷ (symbol.Ne, compares.Ne)
    ∷ (symbol.In, compares.In) ∷ []

abbrev pub is_order : Word → Bool
is_order t = is symbol.Lt t || (is symbol.Le t || (is symbol.Gt t || is symbol.Ge t))

abbrev pub is_equality : Word → Bool
is_equality t = is symbol.Eq t || is symbol.Ne t

-- `in`, `not in` and `is` begin so
abbrev pub is_word : Word → Bool
is_word t = is symbol.In t || (is symbol.Not t || is symbol.Is t)

abbrev pub is_compare : Word → Bool
is_compare t = is_order t || (is_equality t || is_word t)

unfoldable pub compare_op : Parser CmpOp
compare_op = choose (is symbol.Not) (expect symbol.Not >> (expect symbol.In >> pure compares.NotIn)) (one_of compare_ops)

-- `is None` or `is not None`
unfoldable pub none_test : Parser Comparison
none_test =
    expect symbol.Is >> choose (is symbol.Not) (expect symbol.Not >> (expect symbol.None >> pure made.IsNotNone)) (expect symbol.None >> pure made.IsNone)

unfoldable pub comparison : Parser Expr → Parser Comparison
comparison part = choose (is symbol.Is) none_test (compare_op >>= λ op. part >>= λ x. pure (made.Op op x))

abbrev pub comparisons : Parser Expr → Parser (List Comparison)
comparisons part = many is_compare (comparison part)

unfoldable pub compare : Parser Expr → Parser Expr
compare part = part >>= λ x. comparisons part >>= λ ys. pure (compare_of x ys)

-- ---- not, and, or

abbrev pub one_more : ℕ → Unit {0} → ℕ
one_more n u = n + 1

abbrev pub nots : Parser ℕ
nots = gather (is symbol.Not) (expect symbol.Not) one_more 0

unfoldable pub negated : Parser Expr → Parser Expr
negated part = nots >>= λ n. part >>= λ x. pure (not_of n x)

unfoldable pub and_part : Parser Expr → Parser Expr
and_part part = expect symbol.And >> part

abbrev pub and_parts : Parser Expr → Parser (List Expr)
and_parts part = many (is symbol.And) (and_part part)

unfoldable pub both : Parser Expr → Parser Expr
both part = part >>= λ x. and_parts part >>= λ ys. pure (and_of x ys)

unfoldable pub or_part : Parser Expr → Parser Expr
or_part part = expect symbol.Or >> part

abbrev pub or_parts : Parser Expr → Parser (List Expr)
or_parts part = many (is symbol.Or) (or_part part)

unfoldable pub either : Parser Expr → Parser Expr
either part = part >>= λ x. or_parts part >>= λ ys. pure (or_of x ys)

-- an `or`, from its operands with their signs
abbrev pub or_from : Parser Expr → Parser Expr
or_from operand = either (both (negated (compare (sum (product operand)))))

-- ---- conditionals

-- the arms found before, and the last value so far
pub record Armed : Type 0 where
  pub arms : List Arm
  pub last : Expr

-- a test, and the value behind it
abbrev pub choice_of : Expr → Expr → Expr × Expr
choice_of test value = (test, value)

-- the value so far belongs to the test behind it
abbrev pub with_choice : Armed → Expr × Expr → Armed
with_choice s choice = record { arms = s.arms ++ roll-Arm (record { value = s.last; test = choice.0 }) ∷ []; last = choice.1 }

-- what stands behind a word
abbrev pub behind : Symbol → Parser Expr → Parser Expr
behind word part = expect word >> part

unfoldable pub choice : Parser Expr → Parser (Expr × Expr)
choice part = expect symbol.If >> (part >>= λ test. expect symbol.Else >> (part >>= λ value. pure (choice_of test value)))

abbrev pub armed : Parser Expr → Armed → Parser Armed
armed part = gather (is symbol.If) (choice part) with_choice

abbrev pub unarmed : Expr → Armed
unarmed x = record { arms = []; last = x }

unfoldable pub conditional : Parser Expr → Parser Expr
conditional part = part >>= λ x. armed part (unarmed x) >>= λ s. pure (conditional_of s.arms s.last)
