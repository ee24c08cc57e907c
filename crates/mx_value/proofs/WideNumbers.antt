-- Numbers of 128 bits, which goals show as their bits and back.
use Rattle.std.proofs.Common.{◌≡◌, ℕ, zero, suc, ◌<◌, ◌^◌, refl, sym, ◌∙◌, ap, arith, ℤ, pos, negsuc, neg_ℤ, ◌-ℤ◌, ◌<ℤ◌, unsigned_abs, to_z, of_z, FitsSigned, int_lt, true, false, ◌≢◌}
use Rattle.std.proofs.lemmas.Int.{ints, to_z-of_z, fits_signed_from_abs}
use Rattle.std.specs.Int.{w128}
use lib.IntN.{+ℤ_idl}

pub size-neg : (z : ℤ) → unsigned_abs (neg_ℤ z) ≡ unsigned_abs z
size-neg (pos zero) = refl
size-neg (pos (suc n)) = refl
size-neg (negsuc n) = refl

pub back : (z : ℤ) → unsigned_abs z < 2 ^ 127 → to_z w128 (of_z w128 z) ≡ z
back z h = to_z-of_z w128 z (fits_signed_from_abs w128 z h)

pub negated : (z : ℤ) → unsigned_abs z < 2 ^ 127 → to_z w128 (of_z w128 (pos 0 -ℤ to_z w128 (of_z w128 z))) ≡ neg_ℤ z
negated z h = let e = size-neg z in rw (back z h, +ℤ_idl) (back (neg_ℤ z) (omega arith))

pub is_above : (d : ℤ) → FitsSigned w128 d → int_lt (pos 0) (to_z w128 (of_z w128 d)) ≡ true → pos 0 <ℤ d
is_above d f t = omega (arith, ints)

pub is_below : (d : ℤ) → FitsSigned w128 d → d ≢ pos 0 → int_lt (pos 0) (to_z w128 (of_z w128 d)) ≡ false → d <ℤ pos 0
is_below d f ne t = omega (arith, ints)
