-- What the functions that a formula can always call make of numbers, texts and tuples.
use Rattle.std.specs.Prelude.{ℕ, suc, ◌-◌, ◌^◌, nat_le, nat_lt, ℤ, pos, negsuc, neg_ℤ, ◌*ℤ◌, int_div, unsigned_abs, Bool, if◌then◌else◌, List, [], ◌∷◌, length, slice_get, Option, Some, None, Result, Ok, Err}
use Rattle.std.specs.declared.cmp.Ordering.{Ordering}
use Rattle.mx_value.specs.Rounding.{half_even}
use Rattle.mx_value.specs.Fixed.{one, and_then, fixed_root}
use Rattle.mx_value.specs.declared.fixed.NumFault.{NumFault}
use Rattle.mx_value.specs.declared.fixed.NumFault.TheVariants as num
use Rattle.mx_value.specs.declared.value.Value.{Value, out-Value}
use Rattle.mx_value.specs.declared.value.Value.TheVariants.{Nothing, Flag, Int, Fix, Text}
use Rattle.mx_value.specs.declared.value.Segment.TheOpen.{Value-F}
use Rattle.mx_value.specs.declared.fault.FaultKind.TheVariants.{TypeMismatch, NoIndex, Domain}
use Rattle.mx_print.specs.Values.{value_text}
use Rattle.mx_ops.specs.declared.number.Number.{Number}
use Rattle.mx_ops.specs.declared.number.Number.TheVariants.{Whole, Decimal}
use Rattle.mx_ops.specs.declared.number.Arithmetic.TheVariants.{Add}
use Rattle.mx_ops.specs.Kinds.{Content}
use Rattle.mx_ops.specs.Numbers.{to_decimal}
use Rattle.mx_ops.specs.Answers.{Answer, whole, decimal}
use Rattle.mx_ops.specs.Arithmetic.{of_numbers}
use Rattle.mx_ops.specs.Order.{Standing, ordering}

-- The best of some values and those that follow: from the left, each one in the place of the best so far where it
-- stands to that as is asked. Of equal ones that is the first.
abbrev pub better : (Ordering → Bool) → Value → Value → Standing → Answer
better test best v (Some o) = Ok (if test o then v else best)
better test best v None = Err TypeMismatch

abbrev pub best_of : (Ordering → Bool) → Answer → List Value → Answer
best_of test (Ok best) [] = Ok best
best_of test (Ok best) (v ∷ vs) = best_of test (better test best v (ordering v best)) vs
best_of test (Err kind) vs = Err kind

abbrev pub best : (Ordering → Bool) → List Value → Answer
best test [] = Err Domain
best test (v ∷ vs) = best_of test (Ok v) vs

-- the sum of numbers, added from the left; the first fault stands
abbrev pub sum_from : Answer → List Value → Answer
sum_from (Ok total) [] = Ok total
sum_from (Ok total) (v ∷ vs) = sum_from (of_numbers Add total v) vs
sum_from (Err kind) vs = Err kind

-- 10^-n in units of 10^-9, for an n of at most 9
abbrev pub place_value : ℕ → ℤ
place_value n = pos (10 ^ (9 - n))

-- a number rounded half to even at n decimals
abbrev pub rounded_at : Number → ℕ → Value
rounded_at (Whole n) places = Int n
rounded_at (Decimal x) places = Fix (half_even x (place_value places) *ℤ place_value places)

-- there are 0 to 9 decimals
abbrev pub round_at : Number → ℤ → Answer
round_at x (pos n) = if nat_le n 9 then Ok (rounded_at x n) else Err Domain
round_at x (negsuc n) = Err Domain

-- a number rounded half to even
abbrev pub rounded : Number → Value
rounded (Whole n) = Int n
rounded (Decimal x) = Int (half_even x one)

-- a number cut toward 0
abbrev pub cut : Number → Value
cut (Whole n) = Int n
cut (Decimal x) = Int (int_div x one)

-- the root of a decimal number, which has none of a degree below 0
abbrev pub root : ℤ → ℤ → Result ℤ NumFault
root x (pos n) = fixed_root x n
root x (negsuc n) = Err num.Domain

abbrev pub root_of : Number → ℤ → Answer
root_of x n = decimal (and_then (to_decimal x) (λ y. root y n))

-- the place that an index means: from the end where it is negative
abbrev pub place : ℕ → ℤ → Option ℕ
place count (pos i) = Some i
place count (negsuc i) = if nat_lt i count then Some (count - suc i) else None

abbrev pub at : {X : Type 0} → List X → Option ℕ → Option X
at xs (Some i) = slice_get xs i
at xs None = None

abbrev pub or_no_index : Option Value → Answer
or_no_index (Some v) = Ok v
or_no_index None = Err NoIndex

abbrev pub item_at : List Value → ℤ → Answer
item_at items i = or_no_index (at items (place (length items) i))

-- a byte of a text is a text
abbrev pub as_text : Option ℕ → Option Value
as_text (Some b) = Some (Text (b ∷ []))
as_text None = None

abbrev pub byte_at : List ℕ → ℤ → Answer
byte_at bytes i = or_no_index (as_text (at bytes (place (length bytes) i)))

-- a text stays as it is; None, flags and numbers are written out
abbrev pub text_in : Content → Option Value
text_in Value-F.Nothing = Some (Text (value_text Nothing))
text_in (Value-F.Flag b) = Some (Text (value_text (Flag b)))
text_in (Value-F.Int n) = Some (Text (value_text (Int n)))
text_in (Value-F.Fix x) = Some (Text (value_text (Fix x)))
text_in (Value-F.Text t) = Some (Text t)
text_in (Value-F.Tup items) = None
text_in (Value-F.Space at) = None
text_in (Value-F.Cells at) = None
text_in (Value-F.Table t) = None

abbrev pub text_of : Value → Option Value
text_of v = text_in (out-Value v)

-- the opposite of a number
abbrev pub negated : Number → Answer
negated (Whole n) = whole (neg_ℤ n)
negated (Decimal x) = Ok (Fix (neg_ℤ x))

-- the distance of a number from 0
abbrev pub sized : Number → Answer
sized (Whole n) = whole (pos (unsigned_abs n))
sized (Decimal x) = Ok (Fix (pos (unsigned_abs x)))

-- a number as it is; a flag becomes a whole number
abbrev pub value_of : Number → Value
value_of (Whole n) = Int n
value_of (Decimal x) = Fix x

abbrev pub or_mismatch : Option Value → Answer
or_mismatch (Some v) = Ok v
or_mismatch None = Err TypeMismatch

-- the text of a value, or a mismatch of kinds
abbrev pub text_answer : Value → Answer
text_answer v = or_mismatch (text_of v)
