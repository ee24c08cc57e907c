-- How large rounded numbers are.
use Rattle.std.proofs.Common.{◌≡◌, ℕ, zero, suc, ◌+◌, ◌-◌, ◌*◌, ◌^◌, ◌≤◌, ◌<◌, ℤ, pos, neg_ℤ, ◌-ℤ◌, ◌*ℤ◌, unsigned_abs, refl, sym, ap, subst, ◌∙◌, arith, FitsSigned}
use Rattle.std.specs.Int.{w128}
use Rattle.std.proofs.lemmas.Int.{ints, fits_signed_from_abs}
use Rattle.std.proofs.lemmas.Nat.{pow-add}
use Rattle.std.proofs.Math.Nat.{pow-le-pow_right, one-le-pow}
use Rattle.mx_value.specs.Rounding.{IsHalfEven}
use Rattle.mx_value.specs.Fixed.{one, IsInRange}
use Rattle.mx_ops.specs.Builtins.{place_value}

near : (x a : ℤ) → unsigned_abs x ≤ 10 ^ 19 → unsigned_abs (x -ℤ a *ℤ one) ≤ unsigned_abs (x -ℤ pos 0) → unsigned_abs a < 2 ^ 63
near x a h k = omega (arith, ints)

-- a decimal number rounded to a whole one has 64 bits
pub nearest-small : (x q : ℤ) → IsInRange x → IsHalfEven x one q → unsigned_abs q < 2 ^ 63
nearest-small x q h e = near x q h (e.nearest (pos 0))

between : (x a : ℤ) → unsigned_abs x ≤ 10 ^ 19 → unsigned_abs (x -ℤ a) ≤ unsigned_abs (x -ℤ pos (10 ^ 19)) → unsigned_abs (x -ℤ a) ≤ unsigned_abs (x -ℤ neg_ℤ (pos (10 ^ 19))) → unsigned_abs a ≤ 10 ^ 19
between x a h k l = omega (arith, ints)

exponent : (k : ℕ) → k ≡ 19 → 10 ^ k ≡ 10 ^ 19
exponent k e = ap (λ i. 10 ^ i) e

bound : (n : ℕ) → n ≤ 9 → 10 ^ (10 + n) * 10 ^ (9 - n) ≡ 10 ^ 19
bound n h = sym (pow-add 10 (10 + n) (9 - n)) ∙ exponent ((10 + n) + (9 - n)) (omega arith)

minus : (m k : ℕ) → neg_ℤ (pos m) *ℤ pos k ≡ neg_ℤ (pos (m * k))
minus zero k = omega (arith, ints)
minus (suc m) k = refl

-- one that is rounded at some decimals stays in range
pub rounded-in_range : (x q : ℤ) (n : ℕ) → n ≤ 9 → IsInRange x → IsHalfEven x (place_value n) q → IsInRange (q *ℤ place_value n)
rounded-in_range x q n small h e =
    let above = subst (λ (b : ℕ). unsigned_abs (x -ℤ q *ℤ place_value n) ≤ unsigned_abs (x -ℤ pos b)) (bound n small) (e.nearest (pos (10 ^ (10 + n)))) in
    let below = subst (λ (b : ℕ). unsigned_abs (x -ℤ q *ℤ place_value n) ≤ unsigned_abs (x -ℤ neg_ℤ (pos b))) (bound n small) (rw minus at (e.nearest (neg_ℤ (pos (10 ^ (10 + n)))))) in
    between x (q *ℤ place_value n) h above below

-- a unit of a place
pub unit-small : (n : ℕ) → 10 ^ (9 - n) ≤ 10 ^ 9
unit-small n = let less : 9 - n ≤ 9 = omega arith in pow-le-pow_right (omega arith) less

pub unit-positive : (n : ℕ) → 0 < 10 ^ (9 - n)
unit-positive n = one-le-pow (9 - n) 10 (omega arith)

-- the same, of a unit by another name
pub stays-in_range : (x q u : ℤ) (n : ℕ) → n ≤ 9 → u ≡ place_value n → IsInRange x → IsHalfEven x u q → IsInRange (q *ℤ u)
stays-in_range x q u n small e h half = rw e (rounded-in_range x q n small h (subst (λ (v : ℤ). IsHalfEven x v q) e half))

pub range-fits : (z : ℤ) → IsInRange z → FitsSigned w128 z
range-fits z h = fits_signed_from_abs w128 z (omega (arith, h))
