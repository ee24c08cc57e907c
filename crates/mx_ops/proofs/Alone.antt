-- Of the rows of an operator at most one takes some operands.
use Rattle.std.proofs.Common.{ℕ, ℤ, ◌+◌, ◌≤◌, Bool, true, false, cond, List, [], ◌∷◌, Option, Some, None, is_some, subst, arith}
use Rattle.mx_value.specs.declared.value.Value.{Value}
use Rattle.mx_value.specs.declared.value.Value.TheVariants as made
use Rattle.mx_value.specs.declared.value.Segment.TheOpen.{Value-F}
use Rattle.mx_value.specs.declared.value.Segment.TheViews.{roll-Value, out-Value, roll-out-Value}
use Rattle.mx_ops.specs.declared.number.Number.{Number}
use Rattle.mx_ops.specs.declared.number.Number.TheVariants.{Whole, Decimal}
use Rattle.mx_ops.specs.declared.number.Pair.{Pair}
use Rattle.mx_ops.specs.declared.number.Pair.TheVariants.{Wholes, Mixed}
use Rattle.mx_ops.specs.declared.number.Arithmetic.{Arithmetic}
use Rattle.mx_ops.specs.declared.number.Arithmetic.TheVariants as arithmetic
use Rattle.mx_syntax.specs.declared.op.Op.TheVariants as op
use Rattle.mx_ops.specs.declared.order.Comparison.{Comparison}
use Rattle.mx_ops.specs.declared.order.Comparison.TheVariants as comparison
use Rattle.mx_ops.specs.Kinds.{Content, items_in, bytes_in, items_of, bytes_of}
use Rattle.mx_ops.specs.Numbers.{number_of, whole_of, paired, pair_of}
use Rattle.mx_ops.specs.Answers.{Answer}
use Rattle.mx_ops.specs.Rows.{taken, of_parts, of_part, of_wholes, of_mixed}
use Rattle.mx_ops.specs.Table.{rows, arithmetic_rows, best_rows, AtMostOneRow}

-- 1 where there is something
abbrev there : {X : Type 0} → Option X → ℕ
there x = cond (is_some x) 1 0

-- a value is a number, a text or a tuple, and no two of these
abbrev Apart : Option Number → Option (List ℕ) → Option (List Value) → Type 0
Apart x s xs = there x + (there s + there xs) ≤ 1

kinds_at : (l : Content) → Apart (number_of (roll-Value l)) (bytes_in l) (items_in l)
kinds_at Value-F.Nothing = rw made.rolls-Nothing (omega arith)
kinds_at (Value-F.Flag b) = rw (made.rolls-Flag b) (omega arith)
kinds_at (Value-F.Int n) = rw (made.rolls-Int n) (omega arith)
kinds_at (Value-F.Fix x) = rw (made.rolls-Fix x) (omega arith)
kinds_at (Value-F.Text t) = rw (made.rolls-Text t) (omega arith)
kinds_at (Value-F.Tup items) = rw (made.rolls-Tup items) (omega arith)
kinds_at (Value-F.Space at) = rw (made.rolls-Space at) (omega arith)
kinds_at (Value-F.Cells at) = rw (made.rolls-Cells at) (omega arith)
kinds_at (Value-F.Table t) = rw (made.rolls-Table t) (omega arith)

kinds : (v : Value) → Apart (number_of v) (bytes_of v) (items_of v)
kinds v = subst (λ (u : Value). Apart (number_of u) (bytes_of v) (items_of v)) (roll-out-Value v) (kinds_at (out-Value v))

single : (b : Bool) → 0 + cond b 1 0 ≤ 1
single true = omega arith
single false = omega arith

first : (b : Bool) → (0 + cond b 1 0) + 0 ≤ 1
first true = omega arith
first false = omega arith

first_of_three : (b : Bool) → ((0 + cond b 1 0) + 0) + 0 ≤ 1
first_of_three true = omega arith
first_of_three false = omega arith

numbers : (f : ℤ → ℤ → Answer) (g : Number → Number → Answer) (p : Option Pair) → (0 + there (of_wholes f p)) + there (of_mixed g p) ≤ 1
numbers f g (Some (Wholes a b)) = omega arith
numbers f g (Some (Mixed a b)) = omega arith
numbers f g None = omega arith

arithmetic_alone : (a : Arithmetic) (xs : List Value) → taken (arithmetic_rows a) xs ≤ 1
arithmetic_alone a [] = omega arith
arithmetic_alone a (x ∷ []) = omega arith
arithmetic_alone a (x ∷ y ∷ []) = numbers _ _ (pair_of x y)
arithmetic_alone a (x ∷ y ∷ z ∷ rest) = omega arith

-- two numbers, two texts or two tuples
sums : (f : ℤ → ℤ → Answer) (g : Number → Number → Answer) (h : List ℕ → List ℕ → Answer) (k : List Value → List Value → Answer) (x y : Option Number) (s t : Option (List ℕ)) (xs ys : Option (List Value)) → Apart x s xs → (((0 + there (of_wholes f (paired x y))) + there (of_mixed g (paired x y))) + there (of_parts h s t)) + there (of_parts k xs ys) ≤ 1
sums f g h k (Some x) y (Some s) t xs ys apart = absurd (omega arith)
sums f g h k (Some x) y None t (Some xs) ys apart = absurd (omega arith)
sums f g h k (Some (Whole a)) (Some (Whole b)) None t None ys apart = omega arith
sums f g h k (Some (Whole a)) (Some (Decimal b)) None t None ys apart = omega arith
sums f g h k (Some (Whole a)) None None t None ys apart = omega arith
sums f g h k (Some (Decimal a)) (Some (Whole b)) None t None ys apart = omega arith
sums f g h k (Some (Decimal a)) (Some (Decimal b)) None t None ys apart = omega arith
sums f g h k (Some (Decimal a)) None None t None ys apart = omega arith
sums f g h k None y (Some s) t (Some xs) ys apart = absurd (omega arith)
sums f g h k None y (Some s) (Some t) None ys apart = omega arith
sums f g h k None y (Some s) None None ys apart = omega arith
sums f g h k None y None t (Some xs) (Some ys) apart = omega arith
sums f g h k None y None t (Some xs) None apart = omega arith
sums f g h k None y None t None ys apart = omega arith

add_alone : (xs : List Value) → taken (rows op.Add) xs ≤ 1
add_alone [] = omega arith
add_alone (x ∷ []) = omega arith
add_alone (x ∷ y ∷ []) = sums _ _ _ _ (number_of x) (number_of y) (bytes_of x) (bytes_of y) (items_of x) (items_of y) (kinds x)
add_alone (x ∷ y ∷ z ∷ rest) = omega arith

-- an item or a byte
indexed : (f : List Value → ℤ → Answer) (g : List ℕ → ℤ → Answer) (x : Option Number) (s : Option (List ℕ)) (xs : Option (List Value)) (n : Option ℤ) → Apart x s xs → (0 + there (of_parts f xs n)) + there (of_parts g s n) ≤ 1
indexed f g x (Some s) (Some xs) n apart = absurd (omega arith)
indexed f g x (Some s) None (Some n) apart = omega arith
indexed f g x (Some s) None None apart = omega arith
indexed f g x None (Some xs) (Some n) apart = omega arith
indexed f g x None (Some xs) None apart = omega arith
indexed f g x None None n apart = omega arith

index_alone : (xs : List Value) → taken (rows op.Index) xs ≤ 1
index_alone [] = omega arith
index_alone (x ∷ []) = omega arith
index_alone (x ∷ y ∷ []) = indexed _ _ (number_of x) (bytes_of x) (items_of x) (whole_of y) (kinds x)
index_alone (x ∷ y ∷ z ∷ rest) = omega arith

lengths : (f : List Value → Answer) (g : List ℕ → Answer) (x : Option Number) (s : Option (List ℕ)) (xs : Option (List Value)) → Apart x s xs → (0 + there (of_part f xs)) + there (of_part g s) ≤ 1
lengths f g x (Some s) (Some xs) apart = absurd (omega arith)
lengths f g x (Some s) None apart = omega arith
lengths f g x None (Some xs) apart = omega arith
lengths f g x None None apart = omega arith

len_alone : (xs : List Value) → taken (rows op.Len) xs ≤ 1
len_alone [] = omega arith
len_alone (x ∷ []) = lengths _ _ (number_of x) (bytes_of x) (items_of x) (kinds x)
len_alone (x ∷ y ∷ rest) = omega arith

best_alone : (asked : Comparison) (xs : List Value) → taken (best_rows asked) xs ≤ 1
best_alone asked [] = omega arith
best_alone asked (x ∷ []) = first _
best_alone asked (x ∷ y ∷ rest) = omega arith

round_alone : (xs : List Value) → taken (rows op.Round) xs ≤ 1
round_alone [] = omega arith
round_alone (x ∷ []) = first _
round_alone (x ∷ y ∷ []) = single _
round_alone (x ∷ y ∷ z ∷ rest) = omega arith

tuple_alone : (xs : List Value) → taken (rows op.Tuple) xs ≤ 1
tuple_alone [] = omega arith
tuple_alone (x ∷ []) = single _
tuple_alone (x ∷ y ∷ rest) = omega arith

range_alone : (xs : List Value) → taken (rows op.Range) xs ≤ 1
range_alone [] = omega arith
range_alone (x ∷ []) = first_of_three _
range_alone (x ∷ y ∷ []) = first _
range_alone (x ∷ y ∷ z ∷ []) = single _
range_alone (x ∷ y ∷ z ∷ w ∷ rest) = omega arith

pub at_most : AtMostOneRow
at_most op.Add xs = add_alone xs
at_most op.Sub xs = arithmetic_alone arithmetic.Sub xs
at_most op.Mul xs = arithmetic_alone arithmetic.Mul xs
at_most op.Div xs = arithmetic_alone arithmetic.Div xs
at_most op.FloorDiv xs = arithmetic_alone arithmetic.FloorDiv xs
at_most op.Rem xs = arithmetic_alone arithmetic.Rem xs
at_most op.Pow xs = arithmetic_alone arithmetic.Pow xs
at_most op.Index xs = index_alone xs
at_most op.Min xs = best_alone comparison.Lt xs
at_most op.Max xs = best_alone comparison.Gt xs
at_most op.Len xs = len_alone xs
at_most op.Round xs = round_alone xs
at_most op.Tuple xs = tuple_alone xs
at_most op.Range xs = range_alone xs
at_most op.Neg xs = single _
at_most op.Plus xs = single _
at_most op.Not xs = single _
at_most op.Eq xs = single _
at_most op.Ne xs = single _
at_most op.Lt xs = single _
at_most op.Le xs = single _
at_most op.Gt xs = single _
at_most op.Ge xs = single _
at_most op.In xs = single _
at_most op.NotIn xs = single _
at_most op.Abs xs = single _
at_most op.Sum xs = single _
at_most op.Int xs = single _
at_most op.Fixed xs = single _
at_most op.Nroot xs = single _
at_most op.Any xs = single _
at_most op.All xs = single _
at_most op.Str xs = single _
