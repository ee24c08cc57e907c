-- Quotients of decimal numbers.
use Rattle.std.proofs.Common.{◌≡◌, ◌≢◌, ◌^◌, ◌*ℤ◌, ℤ, pos, Option, Some, None, Ok, Err, refl, ap, unsigned_abs}
use Rattle.std.specs.Option.{SomeIff, ok_or}
use Rattle.mx_value.specs.declared.fixed.NumFault.TheVariants.{Overflow, ZeroDivision}
use Rattle.mx_value.specs.Rounding.{half_even}
use Rattle.mx_value.specs.Fixed.{one, checked, fixed_div, IsInRange}
use Rattle.mx_ops.proofs.Tests.{le-yes, le-no, eq-no}

pub by_zero : (a b : ℤ) → b ≡ pos 0 → Err ZeroDivision ≡ fixed_div a b
unfolding fixed_div
by_zero a b h = rw h refl

pub past_zero : (a b : ℤ) → b ≢ pos 0 → checked (half_even (a *ℤ one) b) ≡ fixed_div a b
unfolding fixed_div
past_zero a b h = rw (eq-no b (pos 0) h) refl

-- a number that is there exactly where it is in range
pub in_range_or : (x : Option ℤ) (z : ℤ) → SomeIff x (IsInRange z) z → ok_or x Overflow ≡ checked z
unfolding checked
in_range_or (Some x) z h = rw (le-yes (unsigned_abs z) (10 ^ 19) h.0) (ap Ok h.1)
in_range_or None z h = rw (le-no (unsigned_abs z) (10 ^ 19) h) refl
