-- Powers of numbers from 0 rise with their base, so that the greatest base is found by halving.
use Rattle.std.proofs.Common.{◌≡◌, ◌≢◌, ℕ, zero, suc, ◌+◌, ◌-◌, ◌*◌, ◌^◌, ◌<◌, ◌≤◌, ◌⊎◌, Bool, true, false, inl, inr, refl, sym, ◌∙◌, ap, subst, arith, ℤ, pos, negsuc, ◌≤ℤ◌, ◌<ℤ◌, unsigned_abs, nat_lt, nat_le, if◌then◌else◌, ◌==◌, ◌||◌, add-one, int_lt, int_le, to_z, of_z, Result, Ok, Err, IfOk, IsOkAnd, lit≤, lit<}
use Rattle.std.proofs.lemmas.Int.{ints, clamps}
use Rattle.std.specs.Int.{w128, int_max, is_negative}
use Rattle.std.proofs.lemmas.Bool.{cases_lt}
use Rattle.std.proofs.lemmas.Bool.Decides.{nat_tests}
use Rattle.std.proofs.Math.Nat.{mul-le-mul, mul-le-mul_right, mul_comm}
use Rattle.mx_value.specs.declared.fixed.NumFault.{NumFault}
use Rattle.mx_value.specs.declared.fixed.NumFault.TheVariants.{Domain}
use Rattle.mx_value.specs.Rounding.{nearest, half_even}
use Rattle.mx_value.specs.Fixed.{one, IsInRange, checked, and_then, fixed_mul, fixed_div, power_of, fixed_pow, greatest, is_at_most, fixed_root, IsRoot}
use Rattle.mx_value.proofs.RoundingLaws.{IsNear, nearest-near}
use Rattle.mx_value.proofs.FixedLaws.{checked-in, checked-ok, IfOk-checked, raw-back}
use borrow.Author.Differences.{le-true, true_is_le, false_is_lt, at_most_in, below_in, lt-true, lt-false, le_out}

-- ---- the nearest number

pub nearest-rises : (m n d : ℕ) → 0 < d → m ≤ n → nearest m d ≤ nearest n d
nearest-rises m n d h le =
    let a = nearest-near m d h in
    let b = nearest-near n d h in
    elim (cases_lt m n) [
      | inl less ↦ elim (cases_lt (nearest n d) (nearest m d)) [
        | inl t ↦
            let next : nearest n d + 1 ≤ nearest m d = omega arith in
            let k = mul-le-mul_right d next in
            absurd (omega (arith, a.not_above, b.not_below))
        | inr t ↦ t
      ]
      | inr more ↦ let e : m ≡ n = omega arith in rw e (omega arith)
    ]

pub nearest-exact : (s d : ℕ) → 0 < d → nearest (s * d) d ≡ s
nearest-exact s d h =
    let a = nearest-near (s * d) d h in
    elim (cases_lt s (nearest (s * d) d)) [
      | inl less ↦
          let next : s + 1 ≤ nearest (s * d) d = omega arith in
          let k = mul-le-mul_right d next in
          absurd (omega (arith, a.not_above))
      | inr t ↦ elim (cases_lt (nearest (s * d) d) s) [
        | inl more ↦
            let next : nearest (s * d) d + 1 ≤ s = omega arith in
            let k = mul-le-mul_right d next in
            absurd (omega (arith, a.not_below))
        | inr u ↦ omega arith
      ]
    ]

some : 0 < 10 ^ 9
some = lit< tt

-- ---- products and powers of numbers from 0

abbrev IsNatural : ℤ → Type 0
IsNatural z = (p : ℕ) × (z ≡ pos p)

mul-natural : (a b : ℕ) → fixed_mul (pos a) (pos b) ≡ checked (pos (nearest (a * b) (10 ^ 9)))
unfolding fixed_mul half_even
mul-natural a b = refl

power-natural : (s k : ℕ) → IfOk (power_of (pos s) k) IsNatural
unfolding power_of
power-natural s zero = (10 ^ 9, refl)
power-natural s (suc k) = at (power_of (pos s) k) (power-natural s k)
  where
    at : (r : Result ℤ NumFault) → IfOk r IsNatural → IfOk (and_then r (λ p. fixed_mul p (pos s))) IsNatural
    at (Ok (pos p)) h = rw (mul-natural p s) (IfOk-checked (pos (nearest (p * s) (10 ^ 9))) IsNatural (nearest (p * s) (10 ^ 9), refl))
    at (Ok (negsuc p)) h = absurd (let e = h.1 in cc)
    at (Err e) h = tt

-- a power that is there comes of the one before it
power-step : (s k q : ℕ) → power_of (pos s) (suc k) ≡ Ok (pos q) → (p : ℕ) × (power_of (pos s) k ≡ Ok (pos p)) × (q ≡ nearest (p * s) (10 ^ 9)) × (q ≤ 10 ^ 19)
unfolding power_of
power-step s k q = at (power_of (pos s) k) refl (power-natural s k)
  where
    at : (r : Result ℤ NumFault) → power_of (pos s) k ≡ r → IfOk r IsNatural → and_then r (λ p. fixed_mul p (pos s)) ≡ Ok (pos q) → (p : ℕ) × (power_of (pos s) k ≡ Ok (pos p)) × (q ≡ nearest (p * s) (10 ^ 9)) × (q ≤ 10 ^ 19)
    at (Ok (pos p)) e h f =
        let g = checked-ok (pos (nearest (p * s) (10 ^ 9))) (pos q) (sym (mul-natural p s) ∙ f) in
        let i : q ≡ nearest (p * s) (10 ^ 9) = let j = g.0 in cc in
        (p, e, i, omega (arith, g.1))
    at (Ok (negsuc p)) e h f = absurd (let g = h.1 in cc)
    at (Err x) e h f = absurd (cc)

-- and makes the next one, where that is in range
power-next : (s k p : ℕ) → power_of (pos s) k ≡ Ok (pos p) → nearest (p * s) (10 ^ 9) ≤ 10 ^ 19 → power_of (pos s) (suc k) ≡ Ok (pos (nearest (p * s) (10 ^ 9)))
unfolding power_of
power-next s k p e h = ap (λ r. and_then r (λ z. fixed_mul z (pos s))) e ∙ mul-natural p s ∙ checked-in (pos (nearest (p * s) (10 ^ 9))) h

power-zero : (s : ℕ) → power_of (pos s) zero ≡ Ok one
unfolding power_of
power-zero s = refl

pub power-rises : (r s k q : ℕ) → r ≤ s → power_of (pos s) k ≡ Ok (pos q) → (p : ℕ) × (power_of (pos r) k ≡ Ok (pos p)) × (p ≤ q)
power-rises r s zero q le e =
    let f = sym (power-zero s) ∙ e in
    let g : 10 ^ 9 ≡ q = cc in
    (10 ^ 9, power-zero r, omega (arith, g))
power-rises r s (suc k) q le e =
    let b = power-step s k q e in
    let a = power-rises r s k b.0 le b.1 in
    let smaller = nearest-rises (a.0 * r) (b.0 * s) (10 ^ 9) some (mul-le-mul a.2 le) in
    let fits : nearest (a.0 * r) (10 ^ 9) ≤ 10 ^ 19 = omega (arith, smaller, b.2, b.3) in
    (nearest (a.0 * r) (10 ^ 9), power-next r k a.0 a.1 fits, omega (arith, smaller, b.2))

-- from 1.0 on a power is at least its base
power-one : (s : ℕ) → s ≤ 10 ^ 19 → power_of (pos s) 1 ≡ Ok (pos s)
unfolding power_of
power-one s h = mul-natural (10 ^ 9) s ∙ ap (λ n. checked (pos n)) (ap (λ n. nearest n (10 ^ 9)) (mul_comm (10 ^ 9) s) ∙ nearest-exact s (10 ^ 9) some) ∙ checked-in (pos s) h

power-base : (s k q : ℕ) → 10 ^ 9 ≤ s → power_of (pos s) (suc k) ≡ Ok (pos q) → s ≤ q
power-base s zero q h e =
    let a = power-step s zero q e in
    let f = sym (power-zero s) ∙ a.1 in
    let g : 10 ^ 9 ≡ a.0 = cc in
    let i = a.2 ∙ ap (λ p. nearest (p * s) (10 ^ 9)) (sym g) ∙ ap (λ n. nearest n (10 ^ 9)) (mul_comm (10 ^ 9) s) ∙ nearest-exact s (10 ^ 9) some in
    omega (arith, i)
power-base s (suc k) q h e =
    let a = power-step s (suc k) q e in
    let b = power-base s k a.0 h a.1 in
    let c = mul-le-mul b h in
    let d = nearest-rises (s * 10 ^ 9) (a.0 * s) (10 ^ 9) some c in
    omega (arith, d, a.2, nearest-exact s (10 ^ 9) some)

power-of_zero : (k : ℕ) → power_of (pos 0) (suc k) ≡ Ok (pos 0)
power-of_zero zero = power-one 0 (lit≤ tt)
power-of_zero (suc k) =
    let e = nearest-exact 0 (10 ^ 9) some in
    let fits : nearest (0 * 0) (10 ^ 9) ≤ 10 ^ 19 = omega (arith, e) in
    power-next 0 (suc k) 0 (power-of_zero k) fits ∙ ap (λ n. Ok (pos n)) e

-- ---- the test of a base

at_most-ok : (r : Result ℤ NumFault) (x : ℤ) → is_at_most r x ≡ true → IfOk r IsNatural → (q : ℕ) × (r ≡ Ok (pos q)) × (int_le (pos q) x ≡ true)
at_most-ok (Ok (pos q)) x e h = (q, refl, e)
at_most-ok (Ok (negsuc q)) x e h = absurd (let f = h.1 in cc)
at_most-ok (Err y) x e h = absurd (cc)

le-test : (p q : ℕ) (x : ℤ) → p ≤ q → int_le (pos q) x ≡ true → int_le (pos p) x ≡ true
le-test p q x le e = sym (true_is_le (pos p) x (omega (arith, le-true (pos q) x e)))

pub within-falls : (x : ℤ) (k r s : ℕ) → r ≤ s → is_at_most (power_of (pos s) k) x ≡ true → is_at_most (power_of (pos r) k) x ≡ true
within-falls x k r s le e =
    let a = at_most-ok (power_of (pos s) k) x e (power-natural s k) in
    let b = power-rises r s k a.0 le a.1 in
    ap (λ z. is_at_most z x) b.1 ∙ le-test b.0 a.0 x b.2 a.2

-- a base that fails fails the greater ones
pub within-fails : (x : ℤ) (k r s : ℕ) → r ≤ s → is_at_most (power_of (pos r) k) x ≡ false → is_at_most (power_of (pos s) k) x ≡ false
within-fails x k r s le e = at (is_at_most (power_of (pos s) k) x) refl
  where
    at : (t : Bool) → is_at_most (power_of (pos s) k) x ≡ t → is_at_most (power_of (pos s) k) x ≡ false
    at true f = absurd (let g = within-falls x k r s le f in cc)
    at false f = f

pub within-at_zero : (x : ℤ) (k : ℕ) → 0 < k → pos 0 ≤ℤ x → is_at_most (power_of (pos 0) k) x ≡ true
within-at_zero x zero h le = absurd (omega arith)
within-at_zero x (suc k) h le = ap (λ z. is_at_most z x) (power-of_zero k) ∙ sym (true_is_le (pos 0) x (le_out (pos 0) x le))

pub within-above : (x : ℤ) (k s : ℕ) → 0 < k → 10 ^ 9 ≤ s → x <ℤ pos s → is_at_most (power_of (pos s) k) x ≡ false
within-above x zero s h big lt = absurd (omega arith)
within-above x (suc k) s h big lt = at (is_at_most (power_of (pos s) (suc k)) x) refl
  where
    at : (t : Bool) → is_at_most (power_of (pos s) (suc k)) x ≡ t → is_at_most (power_of (pos s) (suc k)) x ≡ false
    at true f = absurd (
        let a = at_most-ok (power_of (pos s) (suc k)) x f (power-natural s (suc k)) in
        let b = power-base s k a.0 big a.1 in
        omega (arith, ints, le-true (pos a.0) x a.2))
    at false f = f

-- ---- the greatest number that passes a test

pub greatest-is : (test : ℕ → Bool) (k r : ℕ) → r ≤ k → test r ≡ true → ((s : ℕ) → r < s → test s ≡ false) → greatest test k ≡ r
unfolding greatest
greatest-is test zero r le e above = omega arith
greatest-is test (suc k) r le e above = elim (cases_lt r (suc k)) [
  | inl less ↦ let f = above (suc k) less in rw f (greatest-is test k r (omega arith) e above)
  | inr same ↦ let i : r ≡ suc k = omega arith in let f : test (suc k) ≡ true = subst (λ n. test n ≡ true) i e in rw f (sym i)
]

pub greatest-small : (test : ℕ → Bool) (k : ℕ) → greatest test k ≤ k
unfolding greatest
greatest-small test zero = omega arith
greatest-small test (suc k) = at (test (suc k)) (greatest-small test k)
  where
    at : (t : Bool) → greatest test k ≤ k → (if t then suc k else greatest test k) ≤ suc k
    at true h = omega arith
    at false h = omega (arith, h)

pub greatest-reached : (test : ℕ → Bool) (k : ℕ) → test 0 ≡ true → test (greatest test k) ≡ true
unfolding greatest
greatest-reached test zero e = e
greatest-reached test (suc k) e = at (test (suc k)) refl (greatest-reached test k e)
  where
    at : (t : Bool) → test (suc k) ≡ t → test (greatest test k) ≡ true → test (if t then suc k else greatest test k) ≡ true
    at true f h = f
    at false f h = h

pub greatest-bounds : (test : ℕ → Bool) (k s : ℕ) → s ≤ k → test s ≡ true → s ≤ greatest test k
unfolding greatest
greatest-bounds test zero s le e = le
greatest-bounds test (suc k) s le e = at (test (suc k)) refl (λ h. greatest-bounds test k s h e)
  where
    at : (t : Bool) → test (suc k) ≡ t → (s ≤ k → s ≤ greatest test k) → s ≤ (if t then suc k else greatest test k)
    at true f h = le
    at false f h = elim (cases_lt s (suc k)) [
      | inl less ↦ h (omega arith)
      | inr same ↦ let i : s ≡ suc k = omega arith in absurd (let g : test (suc k) ≡ true = subst (λ n. test n ≡ true) i e in cc)
    ]

-- ---- the root

abbrev pub is_within : ℤ → ℕ → ℕ → Bool
is_within x n r = is_at_most (fixed_pow (pos r) (pos n)) x

pow-power : (r : ℤ) (n : ℕ) → nat_lt 10_000 n ≡ false → fixed_pow r (pos n) ≡ power_of r n
unfolding fixed_pow
pow-power r n e = rw e

-- a test passed is the fact
passed : (r : Result ℤ NumFault) (x : ℤ) → is_at_most r x ≡ true → IsOkAnd r (λ p. p ≤ℤ x)
passed (Ok p) x e = at_most_in p x (le-true p x e)
passed (Err y) x e = absurd (cc)

passes : (r : Result ℤ NumFault) (x : ℤ) → IsOkAnd r (λ p. p ≤ℤ x) → is_at_most r x ≡ true
passes (Ok p) x h = sym (true_is_le p x (le_out p x h))
passes (Err y) x h = absurd h

not_below_zero : (x : ℤ) → is_negative x ≡ false → pos 0 ≤ℤ x
not_below_zero x e = omega (arith, ints)

exponent-above : (n : ℕ) → (n == 0) ≡ false → 0 < n
exponent-above n e = grind (arith, nat_tests)

-- the greatest base within 10^19 is the root
greatest-root : (x : ℤ) (n : ℕ) → is_negative x ≡ false → (n == 0) ≡ false → nat_lt 10_000 n ≡ false → IsRoot x n (pos (greatest (is_within x n) (10 ^ 19)))
greatest-root x n a b c =
    let zeroth : is_within x n 0 ≡ true = ap (λ z. is_at_most z x) (pow-power (pos 0) n c) ∙ within-at_zero x n (exponent-above n b) (not_below_zero x a) in
    record {
      not_negative = omega (arith, ints);
      reached = passed (fixed_pow (pos (greatest (is_within x n) (10 ^ 19))) (pos n)) x (greatest-reached (is_within x n) (10 ^ 19) zeroth);
      greatest = bound;
    }
  where
    bound : (s : ℤ) → pos 0 ≤ℤ s → IsInRange s → IsOkAnd (fixed_pow s (pos n)) (λ p. p ≤ℤ x) → s ≤ℤ pos (greatest (is_within x n) (10 ^ 19))
    bound (pos k) h i j = at_most_in (pos k) (pos (greatest (is_within x n) (10 ^ 19))) (omega (arith, greatest-bounds (is_within x n) (10 ^ 19) k i (passes (fixed_pow (pos k) (pos n)) x j)))
    bound (negsuc k) h i j = absurd (omega (arith, ints))

pub root-is : (x : ℤ) (n : ℕ) → IfOk (fixed_root x n) (IsRoot x n)
unfolding fixed_root
root-is x n = at (is_negative x) (n == 0) (nat_lt 10_000 n) refl refl refl
  where
    at : (a b c : Bool) → is_negative x ≡ a → (n == 0) ≡ b → nat_lt 10_000 n ≡ c → IfOk {E = NumFault} (if a || (b || c) then Err Domain else Ok (pos (greatest (is_within x n) (10 ^ 19)))) (IsRoot x n)
    at true b c e f g = tt
    at false true c e f g = tt
    at false false true e f g = tt
    at false false false e f g = greatest-root x n e f g

pub root-past_domain : (x : ℤ) (n : ℕ) → pos 0 ≤ℤ x → 0 < n → n ≤ 10_000 → Ok (pos (greatest (is_within x n) (10 ^ 19))) ≡ fixed_root x n
unfolding fixed_root
root-past_domain x n h p q =
    let a : is_negative x ≡ false = sym (false_is_lt x (pos 0) (omega (arith, le_out (pos 0) x h))) in
    let b : (n == 0) ≡ false = grind (arith, nat_tests) in
    let c : nat_lt 10_000 n ≡ false = grind (arith, nat_tests) in
    rw (a, b, c)

-- the greatest number whose test by the plain power passes is that of `pow`
pub greatest-power : (x : ℤ) (n r : ℕ) → n ≤ 10_000 → r ≤ 10 ^ 19 → is_at_most (power_of (pos r) n) x ≡ true → ((s : ℕ) → r < s → is_at_most (power_of (pos s) n) x ≡ false) → greatest (is_within x n) (10 ^ 19) ≡ r
greatest-power x n r h le e above =
    let c : nat_lt 10_000 n ≡ false = grind (arith, nat_tests) in
    greatest-is (is_within x n) (10 ^ 19) r le (ap (λ z. is_at_most z x) (pow-power (pos r) n c) ∙ e) (λ s lt. ap (λ z. is_at_most z x) (pow-power (pos s) n c) ∙ above s lt)

-- the root lies from low to below high
pub record Halves (x : ℤ) (n low high : ℕ) : Type 0 where
  pub apart : low < high
  pub small : high ≤ 10 ^ 19 + 1
  pub reached : is_at_most (power_of (pos low) n) x ≡ true
  pub above : (s : ℕ) → high ≤ s → is_at_most (power_of (pos s) n) x ≡ false

-- ---- a power as the loop computes it

pub power-begins : (x : ℤ) → power_of x 0 ≡ Ok one
unfolding power_of
power-begins x = refl

pub power-more : (x p : ℤ) (i : ℕ) (r : Result ℤ NumFault) → power_of x i ≡ Ok p → r ≡ fixed_mul p x → power_of x (i + 1) ≡ r
unfolding power_of
power-more x p i r e f = rw add-one (ap (λ z. and_then z (λ p. fixed_mul p x)) e ∙ sym f)

-- the first fault stands
pub power-stops : (x p : ℤ) (i n : ℕ) (y : NumFault) → i < n → power_of x i ≡ Ok p → Err y ≡ fixed_mul p x → Err y ≡ power_of x n
unfolding power_of
power-stops x p i zero y lt e f = absurd (omega arith)
power-stops x p i (suc n) y lt e f = elim (cases_lt i n) [
  | inl less ↦ ap (λ z. and_then z (λ p. fixed_mul p x)) (power-stops x p i n y less e f)
  | inr same ↦ let k : i ≡ n = omega arith in f ∙ sym (ap (λ z. and_then z (λ p. fixed_mul p x)) (ap (λ j. power_of x j) (sym k) ∙ e))
]

larger-size : (x m : ℤ) → pos 0 ≤ℤ x → IsInRange x → m ≡ int_max x one → IsInRange m × (pos (unsigned_abs m) ≡ m) × (10 ^ 9 ≤ unsigned_abs m) × (x ≤ℤ pos (unsigned_abs m))
larger-size x (pos m) le h e = (omega (arith, ints, clamps), refl, omega (arith, ints, clamps), omega (arith, ints, clamps))
larger-size x (negsuc m) le h e = absurd (omega (arith, ints, clamps))

pub halves-begin : (x y m : ℤ) (n : ℕ) → y ≡ x → IsInRange y → pos 0 ≤ℤ x → 0 < n → m ≡ int_max (to_z w128 (of_z w128 y)) one → Halves x n 0 (unsigned_abs (to_z w128 (of_z w128 m)) + 1)
halves-begin x y m n is range le p e =
    let inside : IsInRange x = subst IsInRange is range in
    let a = larger-size x m le inside (e ∙ ap (λ z. int_max z one) (raw-back y range ∙ is)) in
    rw (raw-back m a.0) (record {
      apart = omega arith;
      small = omega (arith, a.0);
      reached = within-at_zero x n p le;
      above = λ s h. within-above x n s p (omega (arith, a.2)) (omega (arith, ints, a.3));
    })

pub halves-lower : (x : ℤ) (n low high middle : ℕ) → Halves x n low high → low < middle → middle ≤ high → is_at_most (power_of (pos middle) n) x ≡ false → Halves x n low middle
halves-lower x n low high middle h p q e = record {
  apart = p;
  small = omega (arith, h.small);
  reached = h.reached;
  above = λ s le. within-fails x n middle s le e;
}

-- ---- the cases of an exponent

exponent-small : (n : ℕ) → n ≤ 10_000 → nat_lt 10_000 n ≡ false
exponent-small n h = grind (arith, nat_tests)

exponent-large : (n : ℕ) → 10_000 < n → nat_lt 10_000 n ≡ true
exponent-large n h = grind (arith, nat_tests)

pub pow-domain : (x n : ℤ) → 10_000 < unsigned_abs n → Err Domain ≡ fixed_pow x n
unfolding fixed_pow
pow-domain x (pos n) h = let e = exponent-large n h in rw e
pow-domain x (negsuc n) h = let e = exponent-large (n + 1) (omega arith) in rw e

pub pow-positive : (x n : ℤ) (r : Result ℤ NumFault) → unsigned_abs n ≤ 10_000 → pos 0 ≤ℤ n → r ≡ power_of x (unsigned_abs n) → r ≡ fixed_pow x n
unfolding fixed_pow
pow-positive x (pos n) r h le f = let e = exponent-small n h in rw e f
pow-positive x (negsuc n) r h le f = absurd (omega (arith, ints))

pub pow-negative : (x n p : ℤ) → unsigned_abs n ≤ 10_000 → n <ℤ pos 0 → power_of x (unsigned_abs n) ≡ Ok p → fixed_div one p ≡ fixed_pow x n
unfolding fixed_pow
pow-negative x (pos n) p h lt f = absurd (omega (arith, ints))
pow-negative x (negsuc n) p h lt f =
    let e = exponent-small (n + 1) (omega arith) in
    let g : power_of x (n + 1) ≡ Ok p = rw add-one f in
    rw e (sym (ap (λ z. and_then z (λ p. fixed_div one p)) g))

pub pow-fails : (x n : ℤ) (y : NumFault) → unsigned_abs n ≤ 10_000 → Err y ≡ power_of x (unsigned_abs n) → Err y ≡ fixed_pow x n
unfolding fixed_pow
pow-fails x (pos n) y h f = let e = exponent-small n h in rw e f
pow-fails x (negsuc n) y h f =
    let e = exponent-small (n + 1) (omega arith) in
    let g : Err y ≡ power_of x (n + 1) = rw add-one f in
    rw e (ap (λ z. and_then z (λ p. fixed_div one p)) g)

-- ---- the cases of a root

pub root-domain : (x : ℤ) (n : ℕ) → (x <ℤ pos 0) ⊎ ((n ≡ 0) ⊎ (10_000 < n)) → Err Domain ≡ fixed_root x n
unfolding fixed_root
root-domain x n h = at (is_negative x) (n == 0) (nat_lt 10_000 n) refl refl refl
  where
    at : (a b c : Bool) → is_negative x ≡ a → (n == 0) ≡ b → nat_lt 10_000 n ≡ c → Err Domain ≡ (if a || (b || c) then Err Domain else Ok (pos (greatest (is_within x n) (10 ^ 19))))
    at true b c e f g = refl
    at false true c e f g = refl
    at false false true e f g = refl
    at false false false e f g = absurd (elim h [
      | inl t ↦ omega (arith, ints)
      | inr (inl t) ↦ omega (arith, exponent-above n f)
      | inr (inr t) ↦ let i = exponent-large n t in cc
    ])

pub root-found : (x : ℤ) (n r : ℕ) → pos 0 ≤ℤ x → 0 < n → n ≤ 10_000 → r ≤ 10 ^ 19 → is_at_most (power_of (pos r) n) x ≡ true → ((s : ℕ) → r < s → is_at_most (power_of (pos s) n) x ≡ false) → Ok (pos r) ≡ fixed_root x n
root-found x n r h p q le e above = ap (λ k. Ok (pos k)) (sym (greatest-power x n r q le e above)) ∙ root-past_domain x n h p q

pub sign-below : (x y : ℤ) → IsInRange y → y ≡ x → int_lt (to_z w128 (of_z w128 y)) (pos 0) ≡ true → x <ℤ pos 0
sign-below x y range is t = let e = rw (raw-back y range) at t in subst (λ z. z <ℤ pos 0) is (below_in y (pos 0) (lt-true y (pos 0) e))

pub sign-above : (x y : ℤ) → IsInRange y → y ≡ x → int_lt (to_z w128 (of_z w128 y)) (pos 0) ≡ false → pos 0 ≤ℤ x
sign-above x y range is t = let e = rw (raw-back y range) at t in subst (λ z. pos 0 ≤ℤ z) is (at_most_in (pos 0) y (lt-false y (pos 0) e))
