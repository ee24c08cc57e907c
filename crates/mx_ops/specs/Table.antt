-- The table of operators and of the functions that a formula can always call, row by row.
use Rattle.std.specs.Prelude.{ℕ, ◌≤◌, pos, Bool, not, List, [], ◌∷◌, ◌++◌, length, Option, Some, None, Result, Ok, Err}
use Rattle.std.specs.declared.cmp.Ordering.{Ordering}
use Rattle.std.specs.List.{list_any}
use Rattle.mx_value.specs.declared.value.Value.{Value}
use Rattle.mx_value.specs.declared.value.Value.TheVariants.{Flag, Int, Text, Tup}
use Rattle.mx_value.specs.declared.fault.FaultKind.{FaultKind}
use Rattle.mx_syntax.specs.declared.op.Op.{Op}
use Rattle.mx_syntax.specs.declared.op.Op.TheVariants as op
use Rattle.mx_ops.specs.declared.number.Arithmetic.{Arithmetic}
use Rattle.mx_ops.specs.declared.number.Arithmetic.TheVariants as arithmetic
use Rattle.mx_ops.specs.declared.order.Comparison.{Comparison}
use Rattle.mx_ops.specs.declared.order.Comparison.TheVariants as comparison
use Rattle.mx_ops.specs.Numbers.{to_decimal}
use Rattle.mx_ops.specs.Answers.{Answer, whole, decimal, flag, made}
use Rattle.mx_ops.specs.Arithmetic.{of_wholes, of_mixed}
use Rattle.mx_ops.specs.Truth.{truth, any_true, all_true}
use Rattle.mx_ops.specs.Order.{Standing, equal, ordering, test_of}
use Rattle.mx_ops.specs.Ranges.{range}
use Rattle.mx_ops.specs.Builtins.{best, sum_from, round_at, rounded, cut, root_of, item_at, byte_at, text_of, negated, sized, value_of}
use Rattle.mx_ops.specs.Rows.{Row, answer, taken, one, whole_row, number_row, text_row, tuple_row, two, wholes_row, mixed_row, texts_row, tuples_row, any_row, among_row, number_and_whole_row, tuple_and_whole_row, text_and_whole_row, none_row, many_row, three_wholes_row}

-- two numbers, by what an operator makes of whole ones and of others
abbrev pub arithmetic_rows : Arithmetic → List Row
arithmetic_rows a = wholes_row (of_wholes a) ∷ mixed_row (λ x y. decimal (of_mixed a x y)) ∷ []

-- two values that have an order
abbrev pub held : (Ordering → Bool) → Standing → Option Answer
held test (Some o) = Some (Ok (Flag (test o)))
held test None = None

abbrev pub order_rows : Comparison → List Row
order_rows asked = two (λ a b. held (test_of asked) (ordering a b)) ∷ []

-- a value that has a truth
abbrev pub turned : Result Bool FaultKind → Option Answer
turned (Ok b) = Some (Ok (Flag (not b)))
turned (Err kind) = None

abbrev pub is_among : Value → List Value → Bool
is_among v items = list_any (λ item. equal item v) items

-- the best of a tuple's items, or of two or more values
abbrev pub best_rows : Comparison → List Row
best_rows asked = tuple_row (best (test_of asked)) ∷ many_row (best (test_of asked)) ∷ []

abbrev pub as_answer : Option Value → Option Answer
as_answer (Some v) = Some (Ok v)
as_answer None = None

abbrev pub count : ℕ → Answer
count n = whole (pos n)

-- two texts in one, two tuples in one
abbrev pub join_tuple_rows : List Row
join_tuple_rows = tuples_row (λ s t. made (Tup (s ++ t))) ∷ []

abbrev pub join_rows : List Row
join_rows = texts_row (λ s t. made (Text (s ++ t))) ∷ join_tuple_rows

-- the byte of a text at a place
abbrev pub index_text_rows : List Row
index_text_rows = text_and_whole_row byte_at ∷ []

abbrev pub rows : Op → List Row
rows op.Add = arithmetic_rows arithmetic.Add ++ join_rows
rows op.Sub = arithmetic_rows arithmetic.Sub
rows op.Mul = arithmetic_rows arithmetic.Mul
rows op.Div = arithmetic_rows arithmetic.Div
rows op.FloorDiv = arithmetic_rows arithmetic.FloorDiv
rows op.Rem = arithmetic_rows arithmetic.Rem
rows op.Pow = arithmetic_rows arithmetic.Pow
rows op.Neg = number_row negated ∷ []
rows op.Plus = number_row (λ x. Ok (value_of x)) ∷ []
rows op.Not = one (λ a. turned (truth a)) ∷ []
rows op.Eq = any_row (λ a b. Ok (Flag (equal a b))) ∷ []
rows op.Ne = any_row (λ a b. Ok (Flag (not (equal a b)))) ∷ []
rows op.Lt = order_rows comparison.Lt
rows op.Le = order_rows comparison.Le
rows op.Gt = order_rows comparison.Gt
rows op.Ge = order_rows comparison.Ge
rows op.In = among_row (λ a items. Ok (Flag (is_among a items))) ∷ []
rows op.NotIn = among_row (λ a items. Ok (Flag (not (is_among a items)))) ∷ []
rows op.Index = tuple_and_whole_row item_at ∷ index_text_rows
rows op.Abs = number_row sized ∷ []
rows op.Min = best_rows comparison.Lt
rows op.Max = best_rows comparison.Gt
rows op.Sum = tuple_row (sum_from (Ok (Int (pos 0)))) ∷ []
rows op.Len = tuple_row (λ items. count (length items)) ∷ text_row (λ bytes. count (length bytes)) ∷ []
rows op.Round = number_row (λ x. Ok (rounded x)) ∷ number_and_whole_row round_at ∷ []
rows op.Int = number_row (λ x. Ok (cut x)) ∷ []
rows op.Fixed = number_row (λ x. decimal (to_decimal x)) ∷ []
rows op.Nroot = number_and_whole_row root_of ∷ []
rows op.Any = tuple_row (λ items. flag (any_true items)) ∷ []
rows op.All = tuple_row (λ items. flag (all_true items)) ∷ []
rows op.Tuple = none_row (Ok (Tup [])) ∷ tuple_row (λ items. Ok (Tup items)) ∷ []
rows op.Str = one (λ a. as_answer (text_of a)) ∷ []
rows op.Range =
    whole_row (λ to. range (pos 0) to (pos 1)) ∷ wholes_row (λ from to. range from to (pos 1)) ∷ three_wholes_row range ∷ []

-- what an operator gives for its operands
abbrev pub gives : Op → List Value → Answer
gives op operands = answer (rows op) operands

-- of the rows of an operator at most one takes some operands
abbrev pub AtMostOneRow : Type 0
AtMostOneRow = (op : Op) (operands : List Value) → taken (rows op) operands ≤ 1
