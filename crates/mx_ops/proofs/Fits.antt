-- Whole numbers of 64 bits.
use Rattle.std.proofs.Common.{◌≡◌, ℕ, ◌<◌, ◌^◌, nat_lt, ℤ, pos, negsuc, true, false, Option, Some, None, refl, ap, arith, FitsSigned}
use Rattle.std.proofs.lemmas.Int.{ints}
use Rattle.std.proofs.lemmas.Bool.Decides.{nat_tests}
use Rattle.std.specs.Int.{w64}
use Rattle.std.specs.Option.{SomeIff}
use Rattle.mx_ops.specs.Numbers.{has_64_bits}
use Rattle.mx_ops.specs.Answers.{whole, sized}

fits : (z : ℤ) → FitsSigned w64 z → has_64_bits z ≡ true
fits (pos n) f = grind (arith, ints, nat_tests)
fits (negsuc n) f = grind (arith, ints, nat_tests)

ltb_or : (n : ℕ) → (n < 2 ^ 63 → ⊥) → nat_lt n (2 ^ 63) ≡ false
ltb_or n h = grind (arith, nat_tests)

misses : (z : ℤ) → (FitsSigned w64 z → ⊥) → has_64_bits z ≡ false
misses (pos n) f = ltb_or n (λ h. f (record { sfits = h }))
misses (negsuc n) f = ltb_or n (λ h. f (record { sfits = h }))

-- a number that is there exactly where it has 64 bits
pub fitted : (n : Option ℤ) (z : ℤ) → SomeIff n (FitsSigned w64 z) z → sized n ≡ whole z
fitted (Some n) z h = rw (fits z h.0) (ap sized (ap Some h.1))
fitted None z h = rw (misses z h) refl
