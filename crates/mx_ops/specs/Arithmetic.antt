-- Arithmetic of two numbers, operator by operator: of two whole ones, and of two of which one is decimal.
use Rattle.std.specs.Prelude.{ℤ, pos, negsuc, ◌+ℤ◌, ◌-ℤ◌, ◌*ℤ◌, int_div, int_rem, if◌then◌else◌, Option, Some, None, Result, Ok, Err}
use Rattle.std.specs.Ordering.{int_eq}
use Rattle.std.specs.Int.{int_pow}
use Rattle.mx_value.specs.Rounding.{floor_of, rest_of}
use Rattle.mx_value.specs.Fixed.{one, and_then, fixed_add, fixed_sub, fixed_mul, fixed_div, fixed_floor_div, fixed_rem, fixed_pow}
use Rattle.mx_value.specs.declared.fixed.NumFault.{NumFault}
use Rattle.mx_value.specs.declared.fixed.NumFault.TheVariants as num
use Rattle.mx_value.specs.declared.value.Value.{Value}
use Rattle.mx_value.specs.declared.value.Value.TheVariants.{Int}
use Rattle.mx_value.specs.declared.fault.FaultKind.TheVariants.{ZeroDivision, TypeMismatch}
use Rattle.mx_ops.specs.declared.number.Number.{Number}
use Rattle.mx_ops.specs.declared.number.Number.TheVariants.{Whole, Decimal}
use Rattle.mx_ops.specs.declared.number.Pair.{Pair}
use Rattle.mx_ops.specs.declared.number.Pair.TheVariants.{Wholes, Mixed}
use Rattle.mx_ops.specs.declared.number.Arithmetic.{Arithmetic}
use Rattle.mx_ops.specs.declared.number.Arithmetic.TheVariants.{Add, Sub, Mul, Div, FloorDiv, Rem, Pow}
use Rattle.mx_ops.specs.Numbers.{to_decimal, is_zero, pair_of}
use Rattle.mx_ops.specs.Answers.{Answer, whole, decimal}

-- by 0 there is no quotient and no remainder
abbrev pub by_nonzero : ℤ → Answer → Answer
by_nonzero b answer = if int_eq b (pos 0) then Err ZeroDivision else answer

-- a whole number to the power of another; to a negative one it is a decimal number
abbrev pub whole_power : ℤ → ℤ → Answer
whole_power a (pos n) = whole (int_pow a n)
whole_power a (negsuc n) = decimal (and_then (to_decimal (Whole a)) (λ x. fixed_pow x (negsuc n)))

-- Two whole numbers. `/` is the exact quotient, half to even at 9 decimals; `//` is rounded down, and `%` has the
-- divisor's sign.
abbrev pub of_wholes : Arithmetic → ℤ → ℤ → Answer
of_wholes Add a b = whole (a +ℤ b)
of_wholes Sub a b = whole (a -ℤ b)
of_wholes Mul a b = whole (a *ℤ b)
of_wholes Div a b = decimal (fixed_div a b)
of_wholes FloorDiv a b = by_nonzero b (whole (floor_of a b))
of_wholes Rem a b = by_nonzero b (Ok (Int (rest_of a b)))
of_wholes Pow a b = whole_power a b

-- a decimal number to the power of another: a whole exponent is the whole number, and another has no power
abbrev pub broken_power : ℤ → ℤ → Result ℤ NumFault
broken_power x y = if int_eq (int_rem y one) (pos 0) then fixed_pow x (int_div y one) else Err num.Domain

-- two decimal numbers
abbrev pub of_decimals : Arithmetic → ℤ → ℤ → Result ℤ NumFault
of_decimals Add x y = fixed_add x y
of_decimals Sub x y = fixed_sub x y
of_decimals Mul x y = fixed_mul x y
of_decimals Div x y = fixed_div x y
of_decimals FloorDiv x y = fixed_floor_div x y
of_decimals Rem x y = fixed_rem x y
of_decimals Pow x y = broken_power x y

-- what comes of two numbers, both made decimal
abbrev pub both : Arithmetic → Number → Number → Result ℤ NumFault
both op a b = and_then (to_decimal a) (λ x. and_then (to_decimal b) (λ y. of_decimals op x y))

-- by 0 there is none, before any number is out of range
abbrev pub divided : Arithmetic → Number → Number → Result ℤ NumFault
divided op a b = if is_zero b then Err num.ZeroDivision else both op a b

-- a decimal number to the power of a number
abbrev pub power_to : ℤ → Number → Result ℤ NumFault
power_to x (Whole n) = fixed_pow x n
power_to x (Decimal y) = broken_power x y

-- two numbers, at least one of them decimal
abbrev pub of_mixed : Arithmetic → Number → Number → Result ℤ NumFault
of_mixed Add a b = both Add a b
of_mixed Sub a b = both Sub a b
of_mixed Mul a b = both Mul a b
of_mixed Div a b = divided Div a b
of_mixed FloorDiv a b = divided FloorDiv a b
of_mixed Rem a b = divided Rem a b
of_mixed Pow a b = and_then (to_decimal a) (λ x. power_to x b)

-- two numbers
abbrev pub of_pair : Arithmetic → Option Pair → Answer
of_pair op (Some (Wholes a b)) = of_wholes op a b
of_pair op (Some (Mixed a b)) = decimal (of_mixed op a b)
of_pair op None = Err TypeMismatch

abbrev pub of_numbers : Arithmetic → Value → Value → Answer
of_numbers op a b = of_pair op (pair_of a b)
