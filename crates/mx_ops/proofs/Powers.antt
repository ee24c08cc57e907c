-- Powers of whole numbers from the 64th on.
use Rattle.std.proofs.Common.{◌≡◌, ℕ, zero, suc, ◌+◌, ◌*◌, ◌%◌, ◌^◌, ◌<◌, ◌≤◌, ◌==◌, Bool, true, false, cond, ℤ, pos, negsuc, neg_ℤ, unsigned_abs, refl, sym, ap, ◌∙◌, arith}
use Rattle.std.proofs.Math.Nat.{pow-le-pow_left, pow-le-pow_right, pow-suc, mul-zero}
use Rattle.std.proofs.lemmas.Bool.Decides.{nat_tests}
use Rattle.std.specs.Int.{int_pow}
use Rattle.mx_ops.specs.Numbers.{has_64_bits}

large : (b n : ℕ) → 2 ≤ b → 64 ≤ n → 2 ^ 64 ≤ b ^ n
large b n h k =
    let wide : 2 ^ 64 ≤ 2 ^ n = pow-le-pow_right (omega arith) k in
    let more : 2 ^ n ≤ b ^ n = pow-le-pow_left h n in
    omega (arith, wide, more)

misses : (m : ℕ) → 2 ^ 64 ≤ m → has_64_bits (pos m) ≡ false
misses m h = grind (arith, nat_tests)

misses_below : (m : ℕ) → 2 ^ 64 ≤ m → has_64_bits (neg_ℤ (pos m)) ≡ false
misses_below zero h = absurd (omega arith)
misses_below (suc m) h = grind (arith, nat_tests)

either_sign : (b : Bool) (m : ℕ) → 2 ^ 64 ≤ m → has_64_bits (cond b (pos m) (neg_ℤ (pos m))) ≡ false
either_sign true m h = misses m h
either_sign false m h = misses_below m h

-- that of a number that is neither -1, 0 nor 1 has not 64 bits
pub power-misses : (a : ℤ) (n : ℕ) → 1 < unsigned_abs a → 64 ≤ n → has_64_bits (int_pow a n) ≡ false
power-misses (pos m) n h k = misses (m ^ n) (large m n (omega arith) k)
power-misses (negsuc m) n h k = either_sign (n % 2 == 0) (suc m ^ n) (large (suc m) n (omega arith) k)

one_power : (n : ℕ) → 1 ^ n ≡ 1
one_power zero = refl
one_power (suc n) = pow-suc 1 n ∙ ap (λ x. x * 1) (one_power n)

zero_power : (n : ℕ) → 0 < n → 0 ^ n ≡ 0
zero_power zero h = absurd (omega arith)
zero_power (suc n) h = pow-suc 0 n ∙ mul-zero (0 ^ n)

parity : (n : ℕ) → (62 + n % 2) % 2 ≡ n % 2
parity n = omega arith

below_zero : (n : ℕ) → int_pow (negsuc 0) n ≡ cond (n % 2 == 0) (pos 1) (neg_ℤ (pos 1))
below_zero n = ap (λ p. cond (n % 2 == 0) (pos p) (neg_ℤ (pos p))) (one_power n)

-- and that of another goes by whether the exponent is even
pub power-repeats : (a : ℤ) (n : ℕ) → unsigned_abs a ≤ 1 → 64 ≤ n → int_pow a n ≡ int_pow a (62 + n % 2)
power-repeats (pos zero) n h k = ap pos (zero_power n (omega arith) ∙ sym (zero_power (62 + n % 2) (omega arith)))
power-repeats (pos (suc zero)) n h k = ap pos (one_power n ∙ sym (one_power (62 + n % 2)))
power-repeats (pos (suc (suc m))) n h k = absurd (omega arith)
power-repeats (negsuc zero) n h k =
    below_zero n ∙ ap (λ r. cond (r == 0) (pos 1) (neg_ℤ (pos 1))) (sym (parity n)) ∙ sym (below_zero (62 + n % 2))
power-repeats (negsuc (suc m)) n h k = absurd (omega arith)
