-- Decimal arithmetic: what the calls answer, and its laws.
use Rattle.std.proofs.Common.{◌≡◌, ◌≢◌, ℕ, zero, suc, ◌+◌, ◌-◌, ◌*◌, ◌/◌, ◌%◌, ◌^◌, ◌<◌, ◌≤◌, ◌⊎◌, Bool, true, false, inl, inr, refl, sym, ◌∙◌, ap, subst, arith, ℤ, pos, negsuc, neg_ℤ, ◌+ℤ◌, ◌-ℤ◌, ◌*ℤ◌, ◌≤ℤ◌, ◌<ℤ◌, unsigned_abs, nat_eq, nat_lt, nat_le, if◌then◌else◌, int_lt, to_z, of_z, FitsSigned, Result, Ok, Err, Option, Some, None, SomeIff, IfOk, lit≤}
use Rattle.std.specs.Option.{ok_or}
use Rattle.std.proofs.lemmas.Int.{ints, unsigned_abs-mul, fits_signed_from_abs}
use Rattle.std.proofs.lemmas.Bool.Decides.{nat_tests, Decides-int_eq}
use Rattle.std.proofs.Math.Nat.{mul-le-mul}
use Rattle.std.specs.Int.{w128}
use Rattle.std.specs.Ordering.{int_eq}
use Rattle.mx_value.proofs.RoundingLaws.{half_even-is, floor-is, rest-towards}
use Rattle.mx_value.proofs.WideNumbers.{back, negated}
use Rattle.mx_value.specs.declared.fixed.NumFault.{NumFault}
use Rattle.mx_value.specs.declared.fixed.NumFault.TheVariants.{Overflow, ZeroDivision, Domain}
use Rattle.mx_value.specs.Rounding.{nearest, half_even, floor_of, rest_of, IsHalfEven, IsFloor, LiesTowards}
use Rattle.mx_value.specs.Fixed.{one, IsInRange, checked, and_then, fixed_from_int, fixed_add, fixed_sub, fixed_mul, fixed_div, fixed_floor_div, fixed_rem, power_of, fixed_pow, greatest, is_at_most, fixed_root, IsRoot}

pub checked-in : (z : ℤ) → IsInRange z → checked z ≡ Ok z
unfolding checked
checked-in z h = grind (arith, nat_tests)

pub checked-out : (z : ℤ) → ¬ (IsInRange z) → checked z ≡ Err Overflow
unfolding checked
checked-out z h = grind (arith, nat_tests)

in_range_from : (z : ℤ) → nat_le (unsigned_abs z) (10 ^ 19) ≡ true → IsInRange z
in_range_from z e = grind (arith, nat_tests)

pub checked-ok : (z q : ℤ) → checked z ≡ Ok q → (q ≡ z) × IsInRange z
unfolding checked
checked-ok z q = at (nat_le (unsigned_abs z) (10 ^ 19)) refl
  where
    at : (t : Bool) → nat_le (unsigned_abs z) (10 ^ 19) ≡ t → (if t then Ok z else Err Overflow) ≡ Ok q → (q ≡ z) × IsInRange z
    at true e h = (let i : z ≡ q = cc in sym i, in_range_from z e)
    at false e h = absurd (cc)

pub checked-from : (o : Option ℤ) (z : ℤ) → SomeIff o (IsInRange z) z → ok_or o Overflow ≡ checked z
checked-from None z h = sym (checked-out z h)
checked-from (Some x) z h = ap Ok h.1 ∙ sym (checked-in z h.0)

-- ---- raw numbers as bits and back

pub raw-back : (x : ℤ) → IsInRange x → to_z w128 (of_z w128 x) ≡ x
raw-back x h = back x (omega arith)

pub sum-back : (x y : ℤ) → IsInRange x → IsInRange y → to_z w128 (of_z w128 (to_z w128 (of_z w128 x) +ℤ to_z w128 (of_z w128 y))) ≡ x +ℤ y
sum-back x y h k = rw (raw-back x h, raw-back y k) (back (x +ℤ y) (omega (arith, ints)))

pub difference-back : (x y : ℤ) → IsInRange x → IsInRange y → to_z w128 (of_z w128 (to_z w128 (of_z w128 x) -ℤ to_z w128 (of_z w128 y))) ≡ x -ℤ y
difference-back x y h k = rw (raw-back x h, raw-back y k) (back (x -ℤ y) (omega (arith, ints)))

product-small : (x y : ℤ) → IsInRange x → IsInRange y → unsigned_abs (x *ℤ y) ≤ 10 ^ 38
product-small x y h k = omega (arith, unsigned_abs-mul x y, mul-le-mul h k)

pub product-back : (x y : ℤ) → IsInRange x → IsInRange y → to_z w128 (of_z w128 (to_z w128 (of_z w128 x) *ℤ to_z w128 (of_z w128 y))) ≡ x *ℤ y
product-back x y h k = rw (raw-back x h, raw-back y k) (back (x *ℤ y) (omega (arith, product-small x y h k)))

one-in-range : IsInRange one
one-in-range = lit≤ tt

-- what holds of z holds of a checked z
pub IfOk-checked : (z : ℤ) (P : ℤ → Type 0) → P z → IfOk (checked z) P
unfolding checked
IfOk-checked z P h = at (nat_le (unsigned_abs z) (10 ^ 19))
  where
    at : (t : Bool) → IfOk {E = NumFault} (if t then Ok z else Err Overflow) P
    at true = h
    at false = tt

one-nonzero : one ≢ pos 0
one-nonzero e = omega (arith, ints)

pub mul-rounded : (x y : ℤ) → IfOk (fixed_mul x y) (IsHalfEven (x *ℤ y) one)
unfolding fixed_mul
mul-rounded x y = IfOk-checked (half_even (x *ℤ y) one) (IsHalfEven (x *ℤ y) one) (half_even-is (x *ℤ y) one one-nonzero)

is_zero : (y : ℤ) → int_eq y (pos 0) ≡ true → y ≡ pos 0
is_zero y = (Decides-int_eq y (pos 0)).0

not_zero : (y : ℤ) → int_eq y (pos 0) ≡ false → y ≢ pos 0
not_zero y e h = let t = (Decides-int_eq y (pos 0)).1 h in cc

-- past the test for the divisor 0
by_divisor : (y : ℤ) (r : Result ℤ NumFault) (P : ℤ → Type 0) → (y ≢ pos 0 → IfOk r P) → IfOk (if int_eq y (pos 0) then Err ZeroDivision else r) P
by_divisor y r P h = at (int_eq y (pos 0)) refl
  where
    at : (t : Bool) → int_eq y (pos 0) ≡ t → IfOk (if t then Err ZeroDivision else r) P
    at true e = tt
    at false e = h (not_zero y e)

pub div-rounded : (x y : ℤ) → IfOk (fixed_div x y) (IsHalfEven (x *ℤ one) y)
unfolding fixed_div
div-rounded x y = by_divisor y (checked (half_even (x *ℤ one) y)) (IsHalfEven (x *ℤ one) y)
    (λ ne. IfOk-checked (half_even (x *ℤ one) y) (IsHalfEven (x *ℤ one) y) (half_even-is (x *ℤ one) y ne))

-- a quotient that is whole and lies at the floor
pub floor_div-floor : (x y : ℤ) → IfOk (fixed_floor_div x y) (λ r. (q : ℤ) × (r ≡ q *ℤ one) × IsFloor x y q)
unfolding fixed_floor_div
floor_div-floor x y = by_divisor y (checked (floor_of x y *ℤ one)) (λ r. (q : ℤ) × (r ≡ q *ℤ one) × IsFloor x y q)
    (λ ne. IfOk-checked (floor_of x y *ℤ one) (λ r. (q : ℤ) × (r ≡ q *ℤ one) × IsFloor x y q) (floor_of x y, refl, floor-is x y ne))

rest-restored : (x z : ℤ) → x ≡ z +ℤ (x -ℤ z)
rest-restored x z = omega (arith, ints)

pub rem-rest : (x y : ℤ) → IfOk (fixed_rem x y) (λ r. (q : ℤ) × (x ≡ (q *ℤ y) +ℤ r) × IsFloor x y q)
unfolding fixed_rem
rem-rest x y = by_divisor y (Ok (rest_of x y)) (λ r. (q : ℤ) × (x ≡ (q *ℤ y) +ℤ r) × IsFloor x y q)
    (λ ne. (floor_of x y, rest-restored x (floor_of x y *ℤ y), floor-is x y ne))

pub rem-sign : (x y : ℤ) → IfOk (fixed_rem x y) (LiesTowards y)
unfolding fixed_rem
rem-sign x y = by_divisor y (Ok (rest_of x y)) (LiesTowards y) (λ ne. rest-towards x y ne)

pub from_int-checked : (n : ℤ) → checked (n *ℤ one) ≡ fixed_from_int n
unfolding checked fixed_from_int
from_int-checked n = let e = unsigned_abs-mul n one in grind (arith, nat_tests)

-- ---- the test for the divisor 0

pub zero-from_bits : (y z : ℤ) → IsInRange y → y ≡ z → of_z w128 y ≡ 0 → z ≡ pos 0
zero-from_bits (pos n) z h e k = sym e ∙ ap pos k
zero-from_bits (negsuc n) z h e k = absurd (omega arith)

pub nonzero-from_bits : (y z : ℤ) → y ≡ z → ¬ (of_z w128 y ≡ 0) → z ≢ pos 0
nonzero-from_bits y z e ne k = ne (ap (of_z w128) (e ∙ k))

untested : (y : ℤ) → y ≢ pos 0 → int_eq y (pos 0) ≡ false
untested y ne = at (int_eq y (pos 0)) refl
  where
    at : (t : Bool) → int_eq y (pos 0) ≡ t → int_eq y (pos 0) ≡ false
    at true e = absurd (ne (is_zero y e))
    at false e = e

pub div-at_zero : (x y : ℤ) → y ≡ pos 0 → Err ZeroDivision ≡ fixed_div x y
unfolding fixed_div
div-at_zero x y e = rw e

pub div-past_zero : (x y : ℤ) → y ≢ pos 0 → checked (half_even (x *ℤ one) y) ≡ fixed_div x y
unfolding fixed_div
div-past_zero x y ne = let e = untested y ne in rw e

pub floor_div-at_zero : (x y : ℤ) → y ≡ pos 0 → Err ZeroDivision ≡ fixed_floor_div x y
unfolding fixed_floor_div
floor_div-at_zero x y e = rw e

pub floor_div-past_zero : (x y : ℤ) → y ≢ pos 0 → checked (floor_of x y *ℤ one) ≡ fixed_floor_div x y
unfolding fixed_floor_div
floor_div-past_zero x y ne = let e = untested y ne in rw e

pub rem-at_zero : (x y : ℤ) → y ≡ pos 0 → Err ZeroDivision ≡ fixed_rem x y
unfolding fixed_rem
rem-at_zero x y e = rw e

pub rem-past_zero : (x y : ℤ) → y ≢ pos 0 → Ok (rest_of x y) ≡ fixed_rem x y
unfolding fixed_rem
rem-past_zero x y ne = let e = untested y ne in rw e

pub scaled-back : (x : ℤ) → IsInRange x → to_z w128 (of_z w128 (to_z w128 (of_z w128 x) *ℤ one)) ≡ x *ℤ one
scaled-back x h = rw (raw-back x h) (back (x *ℤ one) (omega (arith, product-small x one h one-in-range)))
