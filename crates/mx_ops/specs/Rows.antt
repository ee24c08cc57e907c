-- The rows of a table of operators: each takes operands of some count and kinds, and then gives a value or a fault.
use Rattle.std.specs.Prelude.{ℕ, ℤ, List, [], ◌∷◌, Option, Some, None, is_some, count_by, Err}
use Rattle.mx_value.specs.declared.value.Value.{Value}
use Rattle.mx_value.specs.declared.fault.FaultKind.TheVariants.{TypeMismatch}
use Rattle.mx_ops.specs.declared.number.Number.{Number}
use Rattle.mx_ops.specs.declared.number.Number.TheVariants.{Whole}
use Rattle.mx_ops.specs.declared.number.Pair.{Pair}
use Rattle.mx_ops.specs.declared.number.Pair.TheVariants.{Wholes, Mixed}
use Rattle.mx_ops.specs.Kinds.{items_of, bytes_of}
use Rattle.mx_ops.specs.Numbers.{number_of, pair_of, whole_of}
use Rattle.mx_ops.specs.Answers.{Answer}

-- none where the row does not take the operands
abbrev pub Row : Type 0
Row = List Value → Option Answer

-- what the row that takes the operands gives; what no row takes is a mismatch of kinds
abbrev pub or_else : Option Answer → Answer → Answer
or_else (Some answer) rest = answer
or_else None rest = rest

abbrev pub answer : List Row → List Value → Answer
answer [] operands = Err TypeMismatch
answer (row ∷ rows) operands = or_else (row operands) (answer rows operands)

-- how many rows take the operands
abbrev pub taken : List Row → List Value → ℕ
taken rows operands = count_by (λ (row : Row). is_some (row operands)) rows

-- ---- one operand

abbrev pub one : (Value → Option Answer) → Row
one f (a ∷ []) = f a
one f operands = None

abbrev pub of_whole : (ℤ → Answer) → Option Number → Option Answer
of_whole f (Some (Whole n)) = Some (f n)
of_whole f x = None

-- what a row makes of a part that it takes
abbrev pub of_part : {X : Type 0} → (X → Answer) → Option X → Option Answer
of_part f (Some x) = Some (f x)
of_part f None = None

abbrev pub of_parts : {X Y : Type 0} → (X → Y → Answer) → Option X → Option Y → Option Answer
of_parts f (Some x) (Some y) = Some (f x y)
of_parts f (Some x) None = None
of_parts f None y = None

-- a whole number
abbrev pub whole_row : (ℤ → Answer) → Row
whole_row f = one (λ a. of_whole f (number_of a))

-- a number
abbrev pub number_row : (Number → Answer) → Row
number_row f = one (λ a. of_part f (number_of a))

abbrev pub text_row : (List ℕ → Answer) → Row
text_row f = one (λ a. of_part f (bytes_of a))

abbrev pub tuple_row : (List Value → Answer) → Row
tuple_row f = one (λ a. of_part f (items_of a))

-- ---- two operands

abbrev pub two : (Value → Value → Option Answer) → Row
two f (a ∷ b ∷ []) = f a b
two f operands = None

abbrev pub of_wholes : (ℤ → ℤ → Answer) → Option Pair → Option Answer
of_wholes f (Some (Wholes a b)) = Some (f a b)
of_wholes f p = None

abbrev pub of_mixed : (Number → Number → Answer) → Option Pair → Option Answer
of_mixed f (Some (Mixed a b)) = Some (f a b)
of_mixed f p = None

-- two whole numbers
abbrev pub wholes_row : (ℤ → ℤ → Answer) → Row
wholes_row f = two (λ a b. of_wholes f (pair_of a b))

-- two numbers, at least one of them decimal
abbrev pub mixed_row : (Number → Number → Answer) → Row
mixed_row f = two (λ a b. of_mixed f (pair_of a b))

abbrev pub texts_row : (List ℕ → List ℕ → Answer) → Row
texts_row f = two (λ a b. of_parts f (bytes_of a) (bytes_of b))

abbrev pub tuples_row : (List Value → List Value → Answer) → Row
tuples_row f = two (λ a b. of_parts f (items_of a) (items_of b))

-- any two values
abbrev pub any_row : (Value → Value → Answer) → Row
any_row f = two (λ a b. Some (f a b))

-- a value and a tuple
abbrev pub among_row : (Value → List Value → Answer) → Row
among_row f = two (λ a b. of_part (f a) (items_of b))

-- a number and a whole one
abbrev pub number_and_whole_row : (Number → ℤ → Answer) → Row
number_and_whole_row f = two (λ a b. of_parts f (number_of a) (whole_of b))

-- a tuple and a whole number
abbrev pub tuple_and_whole_row : (List Value → ℤ → Answer) → Row
tuple_and_whole_row f = two (λ a b. of_parts f (items_of a) (whole_of b))

-- a text and a whole number
abbrev pub text_and_whole_row : (List ℕ → ℤ → Answer) → Row
text_and_whole_row f = two (λ a b. of_parts f (bytes_of a) (whole_of b))

-- ---- other counts

abbrev pub none_row : Answer → Row
none_row a [] = Some a
none_row a operands = None

-- two or more values
abbrev pub many_row : (List Value → Answer) → Row
many_row f (a ∷ b ∷ rest) = Some (f (a ∷ b ∷ rest))
many_row f operands = None

abbrev pub of_three : (ℤ → ℤ → ℤ → Answer) → Option ℤ → Option ℤ → Option ℤ → Option Answer
of_three f (Some a) (Some b) (Some c) = Some (f a b c)
of_three f a b c = None

-- three whole numbers
abbrev pub three_wholes_row : (ℤ → ℤ → ℤ → Answer) → Row
three_wholes_row f (a ∷ b ∷ c ∷ []) = of_three f (whole_of a) (whole_of b) (whole_of c)
three_wholes_row f operands = None
