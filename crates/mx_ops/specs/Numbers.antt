-- Which values are numbers. A flag counts as the whole number 0 or 1.
use Rattle.std.specs.Prelude.{Bool, true, false, ℤ, pos, negsuc, ◌^◌, ◌*ℤ◌, nat_lt, Option, Some, None, Result, Ok}
use Rattle.std.specs.Ordering.{int_eq}
use Rattle.mx_value.specs.Fixed.{one, fixed_from_int}
use Rattle.mx_value.specs.declared.fixed.NumFault.{NumFault}
use Rattle.mx_value.specs.declared.value.Value.{Value}
use Rattle.mx_value.specs.declared.value.Value.TheVariants.{Flag, Int, Fix}
use Rattle.mx_ops.specs.declared.number.Number.{Number}
use Rattle.mx_ops.specs.declared.number.Number.TheVariants.{Whole, Decimal}
use Rattle.mx_ops.specs.declared.number.Pair.{Pair}
use Rattle.mx_ops.specs.declared.number.Pair.TheVariants.{Wholes, Mixed}

-- the whole number that a flag counts as
abbrev pub flag_number : Bool → ℤ
flag_number true = pos 1
flag_number false = pos 0

-- the number that a value is
abbrev pub number_of : Value → Option Number
number_of (Flag b) = Some (Whole (flag_number b))
number_of (Int n) = Some (Whole n)
number_of (Fix x) = Some (Decimal x)
number_of v = None

-- the whole number that a value is
abbrev pub whole_in : Option Number → Option ℤ
whole_in (Some (Whole n)) = Some n
whole_in x = None

abbrev pub whole_of : Value → Option ℤ
whole_of v = whole_in (number_of v)

-- two numbers: both whole, or at least one of them decimal
abbrev pub paired : Option Number → Option Number → Option Pair
paired (Some (Whole a)) (Some (Whole b)) = Some (Wholes a b)
paired (Some x) (Some y) = Some (Mixed x y)
paired x y = None

abbrev pub pair_of : Value → Value → Option Pair
pair_of a b = paired (number_of a) (number_of b)

-- the value of a number, in units of 10^-9
abbrev pub scaled : Number → ℤ
scaled (Whole n) = n *ℤ one
scaled (Decimal x) = x

-- the number as a decimal one, where it is in range
abbrev pub to_decimal : Number → Result ℤ NumFault
to_decimal (Whole n) = fixed_from_int n
to_decimal (Decimal x) = Ok x

abbrev pub is_zero : Number → Bool
is_zero (Whole n) = int_eq n (pos 0)
is_zero (Decimal x) = int_eq x (pos 0)

-- whether a whole number has 64 bits
abbrev pub has_64_bits : ℤ → Bool
has_64_bits (pos n) = nat_lt n (2 ^ 63)
has_64_bits (negsuc n) = nat_lt n (2 ^ 63)
