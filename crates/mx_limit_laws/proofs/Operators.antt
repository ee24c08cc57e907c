-- What operators give for values within the limits is within them: what they make is tested, and what they hand on was a part.
use Rattle.std.proofs.Common.{◌≡◌, ℕ, zero, suc, ◌+◌, ◌/◌, ◌%◌, ◌^◌, ◌≤◌, ◌==◌, nat_le, Bool, true, false, if◌then◌else◌, not, List, [], ◌∷◌, ◌++◌, length, ℤ, pos, negsuc, unsigned_abs, Option, None, Some, Result, Ok, Err, codes, refl, sym, ◌∙◌, ap, subst, arith, length-append}
use Rattle.std.specs.Prelude.{◌+ℤ◌, ◌-ℤ◌, ◌*ℤ◌, neg_ℤ}
use Rattle.std.specs.Ordering.{int_eq}
use Rattle.std.specs.Int.{is_negative, int_pow}
use Rattle.mx_value.specs.Rounding.{floor_of, rest_of}
use Rattle.mx_value.specs.Fixed.{and_then, fixed_div, fixed_pow}
use Rattle.mx_value.specs.declared.fault.FaultKind.TheVariants.{ZeroDivision}
use Rattle.std.specs.Fmt.{digits, digits_onto, digit_glyph, decimal, signed_decimal}
use Rattle.std.specs.declared.cmp.Ordering.{Ordering}
use Rattle.mx_value.specs.Size.{size_of}
use Rattle.mx_value.specs.Nesting.{nesting_of}
use Rattle.mx_value.specs.declared.fixed.NumFault.{NumFault}
use Rattle.mx_value.specs.declared.label.Label.{Label}
use Rattle.mx_value.specs.declared.fault.FaultKind.{FaultKind}
use Rattle.mx_value.specs.declared.value.Value.{Value, out-Value}
use Rattle.mx_value.specs.declared.value.Value.TheVariants as made
use Rattle.mx_value.specs.declared.value.Segment.TheOpen.{Value-F}
use Rattle.mx_value.specs.declared.value.Segment.TheViews.{roll-Value}
use Rattle.mx_value.specs.declared.value.Segment.TheFolds.{fold-roll-Value, para-roll-Value}
use Rattle.mx_print.specs.Values.{padded, decimals, fixed_text, value_text}
use Rattle.mx_syntax.specs.declared.op.Op.{Op}
use Rattle.mx_syntax.specs.declared.op.Op.TheVariants as op
use Rattle.mx_ops.specs.declared.number.Number.{Number}
use Rattle.mx_ops.specs.declared.number.Number.TheVariants.{Whole, Decimal}
use Rattle.mx_ops.specs.declared.number.Pair.{Pair}
use Rattle.mx_ops.specs.declared.number.Pair.TheVariants.{Wholes, Mixed}
use Rattle.mx_ops.specs.declared.number.Arithmetic.{Arithmetic}
use Rattle.mx_ops.specs.declared.number.Arithmetic.TheVariants as arithmetic
use Rattle.mx_ops.specs.declared.order.Comparison.{Comparison}
use Rattle.mx_ops.specs.declared.order.Comparison.TheVariants as comparison
use Rattle.mx_ops.specs.Kinds.{Content, items_in, items_of, bytes_of}
use Rattle.mx_ops.specs.Numbers.{has_64_bits, number_of, whole_of, pair_of, to_decimal}
use Rattle.mx_ops.specs.Answers.{Answer, whole, decimal as decimal_answer, flag, is_allowed, made as made_answer}
use Rattle.mx_ops.specs.Arithmetic as arith_spec
use Rattle.mx_ops.specs.Truth.{truth, any_true, all_true}
use Rattle.mx_ops.specs.Order.{Standing, equal, ordering, test_of}
use Rattle.mx_ops.specs.Ranges.{numbers_from, range_length, range}
use Rattle.mx_ops.specs.Builtins as builtin
use Rattle.mx_ops.specs.Rows.{Row, or_else, answer, one, of_whole, of_part, of_parts, whole_row, number_row, text_row, tuple_row, two, of_wholes, of_mixed, wholes_row, mixed_row, texts_row, tuples_row, among_row, number_and_whole_row, tuple_and_whole_row, text_and_whole_row, none_row, many_row, of_three, three_wholes_row}
use Rattle.mx_ops.specs.Table.{arithmetic_rows, held, order_rows, turned, is_among, best_rows, as_answer, rows, gives}
use Rattle.mx_limit_laws.specs.Values.{Each, has_fit_addresses, IsWithin, IsAnswerWithin}
use Rattle.mx_limit_laws.proofs.Lists.{IfAny, each_append, each_at}
use Rattle.mx_limit_laws.proofs.Values.{both, at_most, size-Tup, nesting-Tup, fit-Tup, each_fit, items_within, flag_within, int_within, fix_within, text_within, content_within, tuple_within}

-- ---- answers

abbrev IsTaken : Option Answer → Type 0
IsTaken a = IfAny IsAnswerWithin a

if_within : (b : Bool) (x y : Answer) → IsAnswerWithin x → IsAnswerWithin y → IsAnswerWithin (if b then x else y)
if_within true x y h k = h
if_within false x y h k = k

whole_within : (n : ℤ) → IsAnswerWithin (whole n)
whole_within n = if_within (has_64_bits n) (Ok (made.Int n)) _ (int_within n) tt

decimal_within : (r : Result ℤ NumFault) → IsAnswerWithin (decimal_answer r)
decimal_within (Ok x) = fix_within x
decimal_within (Err e) = tt

flag_answer_within : (r : Result Bool FaultKind) → IsAnswerWithin (flag r)
flag_answer_within (Ok b) = flag_within b
flag_answer_within (Err kind) = tt

-- what is made is tested
allowed_within : (v : Value) → has_fit_addresses v ≡ true → (b : Bool) → is_allowed v ≡ b → (other : Answer) → IsAnswerWithin other → IsAnswerWithin (if b then Ok v else other)
allowed_within v f true e other o =
    let p = both (nat_le (size_of v) 1_000_000) (nat_le (nesting_of v) 64) e in
    record { small = at_most (size_of v) 1_000_000 p.0; flat = at_most (nesting_of v) 64 p.1; fit = f }
allowed_within v f false e other o = o

pub made_within : (v : Value) → has_fit_addresses v ≡ true → IsAnswerWithin (made_answer v)
made_within v f = allowed_within v f (is_allowed v) refl _ tt

text_fit : (t : Label) → has_fit_addresses (made.Text t) ≡ true
text_fit t = ap has_fit_addresses (sym (made.rolls-Text t)) ∙ para-roll-Value _ _ _ _ _ _ (Value-F.Text t)

pub made_tuple_within : (items : List Value) → Each IsWithin items → IsAnswerWithin (made_answer (made.Tup items))
made_tuple_within items h = made_within (made.Tup items) (fit-Tup items ∙ each_fit items h)

-- ---- texts of numbers are short

onto_short : (k n : ℕ) (acc : List ℕ) → length (digits_onto k 10 false n acc) ≤ k + length acc
onto_short zero n acc = omega arith
onto_short (suc k) n acc =
    either (n / 10 == 0) (digit_glyph false (n % 10) ∷ acc) (digits_onto k 10 false (n / 10) (digit_glyph false (n % 10) ∷ acc)) (omega arith)
    (let h = onto_short k (n / 10) (digit_glyph false (n % 10) ∷ acc) in omega arith)
  where
    either : (b : Bool) (xs ys : List ℕ) → length xs ≤ suc k + length acc → length ys ≤ suc k + length acc → length (if b then xs else ys) ≤ suc k + length acc
    either true xs ys h i = h
    either false xs ys h i = i

decimal_short : (n : ℕ) → length (decimal n) ≤ 64
unfolding digits
decimal_short n = let h = onto_short 64 n [] in omega arith

signed_short : (z : ℤ) → length (signed_decimal z) ≤ 65
signed_short (pos n) = let h = decimal_short n in omega arith
signed_short (negsuc n) = let h = decimal_short (suc n) in omega arith

padded_long : (k n : ℕ) → length (padded k n) ≡ k
unfolding padded
padded_long zero n = refl
padded_long (suc k) n = omega (arith, length-append (padded k (n / 10)) ((48 + n % 10) ∷ []), padded_long k (n / 10))

decimals_short : (k n : ℕ) → length (decimals k n) ≤ k
unfolding decimals
decimals_short zero n = omega arith
decimals_short (suc k) n = either _ (decimals k (n / 10)) (padded (suc k) n) (let h = decimals_short k (n / 10) in omega arith) (let h = padded_long (suc k) n in omega arith)
  where
    either : (b : Bool) (xs ys : List ℕ) → length xs ≤ suc k → length ys ≤ suc k → length (if b then xs else ys) ≤ suc k
    either true xs ys h i = h
    either false xs ys h i = i

sign_short : (b : Bool) → length (if b then codes "-" else []) ≤ 1
sign_short true = omega arith
sign_short false = omega arith

joined_short : (s d f : List ℕ) → length s ≤ 1 → length d ≤ 64 → length f ≤ 9 → length (s ++ (d ++ (codes "." ++ f))) ≤ 75
joined_short s d f h i j = omega (arith, length-append s (d ++ (codes "." ++ f)), length-append d (codes "." ++ f))

fixed_short : (z : ℤ) → length (fixed_text z) ≤ 75
fixed_short z =
    joined_short (if is_negative z then codes "-" else []) (decimal (unsigned_abs z / 10 ^ 9)) (decimals 9 (unsigned_abs z % 10 ^ 9))
    (sign_short (is_negative z)) (decimal_short (unsigned_abs z / 10 ^ 9)) (decimals_short 9 (unsigned_abs z % 10 ^ 9))

short_within : (v : Value) (t : List ℕ) → value_text v ≡ t → length t ≤ 75 → IsWithin (made.Text (value_text v))
short_within v t e h = text_within (value_text v) (let i = ap length e in omega arith)

flag_short : (b : Bool) → length (if b then codes "True" else codes "False") ≤ 75
flag_short true = omega arith
flag_short false = omega arith

nothing_text : IsWithin (made.Text (value_text made.Nothing))
nothing_text = short_within made.Nothing (codes "None") (ap value_text (sym made.rolls-Nothing) ∙ fold-roll-Value _ _ _ _ _ _ Value-F.Nothing) (omega arith)

flag_text : (b : Bool) → IsWithin (made.Text (value_text (made.Flag b)))
flag_text b = short_within (made.Flag b) (if b then codes "True" else codes "False") (ap value_text (sym (made.rolls-Flag b)) ∙ fold-roll-Value _ _ _ _ _ _ (Value-F.Flag b)) (flag_short b)

int_text : (n : ℤ) → IsWithin (made.Text (value_text (made.Int n)))
int_text n =
    let s = signed_short n in
    short_within (made.Int n) (signed_decimal n) (ap value_text (sym (made.rolls-Int n)) ∙ fold-roll-Value _ _ _ _ _ _ (Value-F.Int n)) (omega arith)

fix_text : (x : ℤ) → IsWithin (made.Text (value_text (made.Fix x)))
fix_text x = short_within (made.Fix x) (fixed_text x) (ap value_text (sym (made.rolls-Fix x)) ∙ fold-roll-Value _ _ _ _ _ _ (Value-F.Fix x)) (fixed_short x)

text_in_within : (c : Content) → IsWithin (roll-Value c) → IsTaken (as_answer (builtin.text_in c))
text_in_within Value-F.Nothing w = nothing_text
text_in_within (Value-F.Flag b) w = flag_text b
text_in_within (Value-F.Int n) w = int_text n
text_in_within (Value-F.Fix x) w = fix_text x
text_in_within (Value-F.Text t) w = subst IsWithin (made.rolls-Text t) w
text_in_within (Value-F.Tup items) w = tt
text_in_within (Value-F.Space at) w = tt
text_in_within (Value-F.Cells at) w = tt
text_in_within (Value-F.Table t) w = tt

-- ---- numbers

nonzero_within : (b : ℤ) (a : Answer) → IsAnswerWithin a → IsAnswerWithin (arith_spec.by_nonzero b a)
nonzero_within b a h = if_within (int_eq b (pos 0)) (Err ZeroDivision) a tt h

power_within : (a b : ℤ) → IsAnswerWithin (arith_spec.whole_power a b)
power_within a (pos n) = whole_within (int_pow a n)
power_within a (negsuc n) = decimal_within (and_then (to_decimal (Whole a)) (λ x. fixed_pow x (negsuc n)))

wholes_within : (a : Arithmetic) (x y : ℤ) → IsAnswerWithin (arith_spec.of_wholes a x y)
wholes_within arithmetic.Add x y = whole_within (x +ℤ y)
wholes_within arithmetic.Sub x y = whole_within (x -ℤ y)
wholes_within arithmetic.Mul x y = whole_within (x *ℤ y)
wholes_within arithmetic.Div x y = decimal_within (fixed_div x y)
wholes_within arithmetic.FloorDiv x y = nonzero_within y (whole (floor_of x y)) (whole_within (floor_of x y))
wholes_within arithmetic.Rem x y = nonzero_within y (Ok (made.Int (rest_of x y))) (int_within (rest_of x y))
wholes_within arithmetic.Pow x y = power_within x y

pair_within : (a : Arithmetic) (p : Option Pair) → IsAnswerWithin (arith_spec.of_pair a p)
pair_within a (Some (Wholes x y)) = wholes_within a x y
pair_within a (Some (Mixed x y)) = decimal_within (arith_spec.of_mixed a x y)
pair_within a None = tt

value_within : (x : Number) → IsWithin (builtin.value_of x)
value_within (Whole n) = int_within n
value_within (Decimal x) = fix_within x

negated_within : (x : Number) → IsAnswerWithin (builtin.negated x)
negated_within (Whole n) = whole_within (neg_ℤ n)
negated_within (Decimal x) = fix_within (neg_ℤ x)

sized_within : (x : Number) → IsAnswerWithin (builtin.sized x)
sized_within (Whole n) = whole_within (pos (unsigned_abs n))
sized_within (Decimal x) = fix_within (pos (unsigned_abs x))

rounded_within : (x : Number) → IsWithin (builtin.rounded x)
rounded_within (Whole n) = int_within n
rounded_within (Decimal x) = int_within _

cut_within : (x : Number) → IsWithin (builtin.cut x)
cut_within (Whole n) = int_within n
cut_within (Decimal x) = int_within _

rounded_at_within : (x : Number) (n : ℕ) → IsWithin (builtin.rounded_at x n)
rounded_at_within (Whole m) n = int_within m
rounded_at_within (Decimal x) n = fix_within _

round_at_within : (x : Number) (n : ℤ) → IsAnswerWithin (builtin.round_at x n)
round_at_within x (pos n) = if_within (nat_le n 9) (Ok (builtin.rounded_at x n)) _ (rounded_at_within x n) tt
round_at_within x (negsuc n) = tt

-- ---- tuples and texts

better_within : (test : Ordering → Bool) (b v : Value) (s : Standing) → IsWithin b → IsWithin v → IsAnswerWithin (builtin.better test b v s)
better_within test b v (Some o) h k = chosen (test o)
  where
    chosen : (c : Bool) → IsWithin (if c then v else b)
    chosen true = k
    chosen false = h
better_within test b v None h k = tt

best_of_within : (test : Ordering → Bool) (a : Answer) → IsAnswerWithin a → (vs : List Value) → Each IsWithin vs → IsAnswerWithin (builtin.best_of test a vs)
best_of_within test (Ok b) h [] w = h
best_of_within test (Ok b) h (v ∷ vs) w = best_of_within test (builtin.better test b v (ordering v b)) (better_within test b v (ordering v b) h w.0) vs w.1
best_of_within test (Err kind) h vs w = tt

best_within : (test : Ordering → Bool) (vs : List Value) → Each IsWithin vs → IsAnswerWithin (builtin.best test vs)
best_within test [] w = tt
best_within test (v ∷ vs) w = best_of_within test (Ok v) w.0 vs w.1

sum_within : (a : Answer) → IsAnswerWithin a → (vs : List Value) → IsAnswerWithin (builtin.sum_from a vs)
sum_within (Ok total) h [] = h
sum_within (Ok total) h (v ∷ vs) = sum_within (arith_spec.of_numbers arithmetic.Add total v) (pair_within arithmetic.Add (pair_of total v)) vs
sum_within (Err kind) h vs = tt

no_index_within : (v : Option Value) → IfAny IsWithin v → IsAnswerWithin (builtin.or_no_index v)
no_index_within (Some v) h = h
no_index_within None h = tt

at_within : {X : Type 0} (P : X → Type 0) (xs : List X) → Each P xs → (i : Option ℕ) → IfAny P (builtin.at xs i)
at_within P xs h (Some i) = each_at P xs h i
at_within P xs h None = tt

item_within : (items : List Value) (i : ℤ) → Each IsWithin items → IsAnswerWithin (builtin.item_at items i)
item_within items i h = no_index_within _ (at_within IsWithin items h (builtin.place (length items) i))

byte_text : (b : Option ℕ) → IfAny IsWithin (builtin.as_text b)
byte_text (Some b) = text_within (b ∷ []) (omega arith)
byte_text None = tt

byte_within : (bytes : List ℕ) (i : ℤ) → IsAnswerWithin (builtin.byte_at bytes i)
byte_within bytes i = no_index_within _ (byte_text _)

numbers_within : (from step : ℤ) (n : ℕ) → Each IsWithin (numbers_from from step n)
numbers_within from step zero = tt
numbers_within from step (suc n) = each_append IsWithin (numbers_from from step n) _ (numbers_within from step n) (int_within _, tt)

range_within : (from to step : ℤ) → IsAnswerWithin (range from to step)
range_within from to (pos zero) = tt
range_within from to (pos (suc d)) = made_tuple_within _ (numbers_within from (pos (suc d)) (range_length from to (pos (suc d))))
range_within from to (negsuc d) = made_tuple_within _ (numbers_within from (negsuc d) (range_length from to (negsuc d)))

-- ---- rows

abbrev OfRow : Row → Type 0
OfRow row = (operands : List Value) → Each IsWithin operands → IsTaken (row operands)

or_else_within : (a : Option Answer) (rest : Answer) → IsTaken a → IsAnswerWithin rest → IsAnswerWithin (or_else a rest)
or_else_within (Some a) rest h k = h
or_else_within None rest h k = k

answer_within : (rows : List Row) → Each OfRow rows → (operands : List Value) → Each IsWithin operands → IsAnswerWithin (answer rows operands)
answer_within [] a operands w = tt
answer_within (row ∷ more) a operands w = or_else_within (row operands) (answer more operands) (a.0 operands w) (answer_within more a.1 operands w)

one_within : (f : Value → Option Answer) → ((v : Value) → IsWithin v → IsTaken (f v)) → OfRow (one f)
one_within f h [] w = tt
one_within f h (a ∷ []) w = h a w.0
one_within f h (a ∷ b ∷ more) w = tt

two_within : (f : Value → Value → Option Answer) → ((u v : Value) → IsWithin u → IsWithin v → IsTaken (f u v)) → OfRow (two f)
two_within f h [] w = tt
two_within f h (a ∷ []) w = tt
two_within f h (a ∷ b ∷ []) w = h a b w.0 w.1.0
two_within f h (a ∷ b ∷ c ∷ more) w = tt

part_within : {X : Type 0} (f : X → Answer) → ((x : X) → IsAnswerWithin (f x)) → (x : Option X) → IsTaken (of_part f x)
part_within f h (Some x) = h x
part_within f h None = tt

parts_within : {X Y : Type 0} (f : X → Y → Answer) (P : X → Type 0) (Q : Y → Type 0) → ((x : X) (y : Y) → P x → Q y → IsAnswerWithin (f x y)) → (x : Option X) (y : Option Y) → IfAny P x → IfAny Q y → IsTaken (of_parts f x y)
parts_within f P Q h (Some x) (Some y) p q = h x y p q
parts_within f P Q h (Some x) None p q = tt
parts_within f P Q h None y p q = tt

-- it holds of anything
abbrev Any : {X : Type 0} → X → Type 0
Any x = Unit {0}

any : {X : Type 0} (x : Option X) → IfAny Any x
any (Some x) = tt
any None = tt

items_in_within : (c : Content) → IsWithin (roll-Value c) → IfAny (λ items. IsWithin (made.Tup items)) (items_in c)
items_in_within (Value-F.Tup items) w = subst IsWithin (made.rolls-Tup items) w
items_in_within Value-F.Nothing w = tt
items_in_within (Value-F.Flag b) w = tt
items_in_within (Value-F.Int n) w = tt
items_in_within (Value-F.Fix x) w = tt
items_in_within (Value-F.Text t) w = tt
items_in_within (Value-F.Space at) w = tt
items_in_within (Value-F.Cells at) w = tt
items_in_within (Value-F.Table t) w = tt

-- the items of a value are those of a tuple within the limits
pub items_of_within : (v : Value) → IsWithin v → IfAny (λ items. IsWithin (made.Tup items)) (items_of v)
items_of_within v w = items_in_within (out-Value v) (content_within v w)

tuple_part : (f : List Value → Answer) → ((items : List Value) → IsWithin (made.Tup items) → IsAnswerWithin (f items)) → (x : Option (List Value)) → IfAny (λ items. IsWithin (made.Tup items)) x → IsTaken (of_part f x)
tuple_part f h (Some items) w = h items w
tuple_part f h None w = tt

whole_part : (f : ℤ → Answer) → ((n : ℤ) → IsAnswerWithin (f n)) → (x : Option Number) → IsTaken (of_whole f x)
whole_part f h (Some (Whole n)) = h n
whole_part f h (Some (Decimal x)) = tt
whole_part f h None = tt

whole_row_within : (f : ℤ → Answer) → ((n : ℤ) → IsAnswerWithin (f n)) → OfRow (whole_row f)
whole_row_within f h = one_within _ (λ v w. whole_part f h (number_of v))

number_row_within : (f : Number → Answer) → ((x : Number) → IsAnswerWithin (f x)) → OfRow (number_row f)
number_row_within f h = one_within _ (λ v w. part_within f h (number_of v))

text_row_within : (f : List ℕ → Answer) → ((t : List ℕ) → IsAnswerWithin (f t)) → OfRow (text_row f)
text_row_within f h = one_within _ (λ v w. part_within f h (bytes_of v))

tuple_row_within : (f : List Value → Answer) → ((items : List Value) → IsWithin (made.Tup items) → IsAnswerWithin (f items)) → OfRow (tuple_row f)
tuple_row_within f h = one_within _ (λ v w. tuple_part f h (items_of v) (items_of_within v w))

wholes_part : (f : ℤ → ℤ → Answer) → ((a b : ℤ) → IsAnswerWithin (f a b)) → (p : Option Pair) → IsTaken (of_wholes f p)
wholes_part f h (Some (Wholes a b)) = h a b
wholes_part f h (Some (Mixed a b)) = tt
wholes_part f h None = tt

mixed_part : (f : Number → Number → Answer) → ((a b : Number) → IsAnswerWithin (f a b)) → (p : Option Pair) → IsTaken (of_mixed f p)
mixed_part f h (Some (Mixed a b)) = h a b
mixed_part f h (Some (Wholes a b)) = tt
mixed_part f h None = tt

wholes_row_within : (f : ℤ → ℤ → Answer) → ((a b : ℤ) → IsAnswerWithin (f a b)) → OfRow (wholes_row f)
wholes_row_within f h = two_within _ (λ u v p q. wholes_part f h (pair_of u v))

mixed_row_within : (f : Number → Number → Answer) → ((a b : Number) → IsAnswerWithin (f a b)) → OfRow (mixed_row f)
mixed_row_within f h = two_within _ (λ u v p q. mixed_part f h (pair_of u v))

texts_row_within : OfRow (texts_row (λ s t. made_answer (made.Text (s ++ t))))
texts_row_within = two_within _ (λ u v p q. parts_within _ Any Any (λ s t a b. made_within (made.Text (s ++ t)) (text_fit (s ++ t))) (bytes_of u) (bytes_of v) (any _) (any _))

tuples_row_within : OfRow (tuples_row (λ s t. made_answer (made.Tup (s ++ t))))
tuples_row_within =
    two_within _ (λ u v p q.
    parts_within _ (λ items. IsWithin (made.Tup items)) (λ items. IsWithin (made.Tup items)) (λ s t a b. made_tuple_within (s ++ t) (each_append IsWithin s t (items_within s a) (items_within t b))) (items_of u) (items_of v) (items_of_within u p) (items_of_within v q))

among_row_within : (f : Value → List Value → Bool) → OfRow (among_row (λ a items. Ok (made.Flag (f a items))))
among_row_within f = two_within _ (λ u v p q. part_within _ (λ items. flag_within (f u items)) (items_of v))

number_and_whole_within : (f : Number → ℤ → Answer) → ((x : Number) (n : ℤ) → IsAnswerWithin (f x n)) → OfRow (number_and_whole_row f)
number_and_whole_within f h = two_within _ (λ u v p q. parts_within f Any Any (λ x n a b. h x n) (number_of u) (whole_of v) (any _) (any _))

tuple_index_within : OfRow (tuple_and_whole_row builtin.item_at)
tuple_index_within = two_within _ (λ u v p q. parts_within builtin.item_at (λ items. IsWithin (made.Tup items)) Any (λ items i a b. item_within items i (items_within items a)) (items_of u) (whole_of v) (items_of_within u p) (any _))

text_index_within : OfRow (text_and_whole_row builtin.byte_at)
text_index_within = two_within _ (λ u v p q. parts_within builtin.byte_at Any Any (λ bytes i a b. byte_within bytes i) (bytes_of u) (whole_of v) (any _) (any _))

none_row_within : (a : Answer) → IsAnswerWithin a → OfRow (none_row a)
none_row_within a h [] w = h
none_row_within a h (v ∷ vs) w = tt

many_row_within : (f : List Value → Answer) → ((vs : List Value) → Each IsWithin vs → IsAnswerWithin (f vs)) → OfRow (many_row f)
many_row_within f h [] w = tt
many_row_within f h (a ∷ []) w = tt
many_row_within f h (a ∷ b ∷ more) w = h (a ∷ b ∷ more) w

three_part : (f : ℤ → ℤ → ℤ → Answer) → ((a b c : ℤ) → IsAnswerWithin (f a b c)) → (x y z : Option ℤ) → IsTaken (of_three f x y z)
three_part f h (Some a) (Some b) (Some c) = h a b c
three_part f h (Some a) (Some b) None = tt
three_part f h (Some a) None z = tt
three_part f h None y z = tt

three_wholes_within : (f : ℤ → ℤ → ℤ → Answer) → ((a b c : ℤ) → IsAnswerWithin (f a b c)) → OfRow (three_wholes_row f)
three_wholes_within f h [] w = tt
three_wholes_within f h (a ∷ []) w = tt
three_wholes_within f h (a ∷ b ∷ []) w = tt
three_wholes_within f h (a ∷ b ∷ c ∷ []) w = three_part f h (whole_of a) (whole_of b) (whole_of c)
three_wholes_within f h (a ∷ b ∷ c ∷ d ∷ more) w = tt

held_within : (test : Ordering → Bool) (s : Standing) → IsTaken (held test s)
held_within test (Some o) = flag_within (test o)
held_within test None = tt

turned_within : (r : Result Bool FaultKind) → IsTaken (turned r)
turned_within (Ok b) = flag_within (not b)
turned_within (Err kind) = tt

arithmetic_within : (a : Arithmetic) → Each OfRow (arithmetic_rows a)
arithmetic_within a = (wholes_row_within _ (wholes_within a), (mixed_row_within _ (λ x y. decimal_within (arith_spec.of_mixed a x y)), tt))

order_within : (c : Comparison) → Each OfRow (order_rows c)
order_within c = (two_within _ (λ u v p q. held_within (test_of c) (ordering u v)), tt)

best_rows_within : (c : Comparison) → Each OfRow (best_rows c)
best_rows_within c = (tuple_row_within _ (λ items w. best_within (test_of c) items (items_within items w)), (many_row_within _ (best_within (test_of c)), tt))

empty_within : IsWithin (made.Tup [])
empty_within =
    let s = size-Tup [] in
    let n = nesting-Tup [] in
    tuple_within [] tt (omega (arith, s)) (omega (arith, n))

rows_within : (o : Op) → Each OfRow (rows o)
rows_within op.Add = (wholes_row_within _ (wholes_within arithmetic.Add), (mixed_row_within _ (λ x y. decimal_within (arith_spec.of_mixed arithmetic.Add x y)), (texts_row_within, (tuples_row_within, tt))))
rows_within op.Sub = arithmetic_within arithmetic.Sub
rows_within op.Mul = arithmetic_within arithmetic.Mul
rows_within op.Div = arithmetic_within arithmetic.Div
rows_within op.FloorDiv = arithmetic_within arithmetic.FloorDiv
rows_within op.Rem = arithmetic_within arithmetic.Rem
rows_within op.Pow = arithmetic_within arithmetic.Pow
rows_within op.Neg = (number_row_within _ negated_within, tt)
rows_within op.Plus = (number_row_within _ value_within, tt)
rows_within op.Not = (one_within _ (λ v w. turned_within (truth v)), tt)
rows_within op.Eq = (two_within _ (λ u v p q. flag_within (equal u v)), tt)
rows_within op.Ne = (two_within _ (λ u v p q. flag_within (not (equal u v))), tt)
rows_within op.Lt = order_within comparison.Lt
rows_within op.Le = order_within comparison.Le
rows_within op.Gt = order_within comparison.Gt
rows_within op.Ge = order_within comparison.Ge
rows_within op.In = (among_row_within is_among, tt)
rows_within op.NotIn = (among_row_within (λ a items. not (is_among a items)), tt)
rows_within op.Index = (tuple_index_within, (text_index_within, tt))
rows_within op.Abs = (number_row_within _ sized_within, tt)
rows_within op.Min = best_rows_within comparison.Lt
rows_within op.Max = best_rows_within comparison.Gt
rows_within op.Sum = (tuple_row_within _ (λ items w. sum_within (Ok (made.Int (pos 0))) (int_within (pos 0)) items), tt)
rows_within op.Len = (tuple_row_within _ (λ items w. whole_within (pos (length items))), (text_row_within _ (λ t. whole_within (pos (length t))), tt))
rows_within op.Round = (number_row_within _ rounded_within, (number_and_whole_within _ round_at_within, tt))
rows_within op.Int = (number_row_within _ cut_within, tt)
rows_within op.Fixed = (number_row_within _ (λ x. decimal_within (to_decimal x)), tt)
rows_within op.Nroot = (number_and_whole_within _ (λ x n. decimal_within (and_then (to_decimal x) (λ y. builtin.root y n))), tt)
rows_within op.Any = (tuple_row_within _ (λ items w. flag_answer_within (any_true items)), tt)
rows_within op.All = (tuple_row_within _ (λ items w. flag_answer_within (all_true items)), tt)
rows_within op.Tuple = (none_row_within _ empty_within, (tuple_row_within _ (λ items w. w), tt))
rows_within op.Str = (one_within _ (λ v w. text_in_within (out-Value v) (content_within v w)), tt)
rows_within op.Range = (whole_row_within _ (λ to. range_within (pos 0) to (pos 1)), (wholes_row_within _ (λ from to. range_within from to (pos 1)), (three_wholes_within _ range_within, tt)))

-- what an operator gives for values within the limits is within them
pub gives_within : (o : Op) (operands : List Value) → Each IsWithin operands → IsAnswerWithin (gives o operands)
gives_within o operands w = answer_within (rows o) (rows_within o) operands w
