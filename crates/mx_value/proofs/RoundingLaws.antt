-- The rounded quotients are the numbers that their properties say, and no others.
use Rattle.std.proofs.Common.{◌≡◌, ◌≢◌, ℕ, zero, suc, ◌+◌, ◌-◌, ◌*◌, ◌/◌, ◌%◌, ◌<◌, ◌≤◌, ◌⊎◌, ◌↔◌, Bool, true, false, inl, inr, refl, sym, ◌∙◌, ap, subst, arith, ℤ, pos, negsuc, neg_ℤ, ◌+ℤ◌, ◌-ℤ◌, ◌*ℤ◌, ◌≤ℤ◌, ◌<ℤ◌, unsigned_abs, nat_lt, int_lt, if◌then◌else◌}
use Rattle.std.proofs.Math.Nat.{div-le_self, mod-lt, mul-le-mul_right, le_of_mul-le-mul_right, zero-mul}
use Rattle.std.proofs.lemmas.Nat.{div-add-mod'}
use Rattle.std.proofs.lemmas.Int.{ints}
use Rattle.std.proofs.lemmas.Bool.{cases_lt}
use Rattle.std.proofs.lemmas.Bool.Decides.{nat_tests}
use Rattle.mx_value.specs.Rounding.{distance, IsHalfEven, IsFloor, nearest, half_even, IsAtMostRatio, floor_of, rest_of, LiesTowards}
use Rattle.std.specs.Int.{int_div_euclid, int_rem_euclid}
use mathlib.Core.Bool.{beq}
use borrow.Author.Differences.{up, down, same_in, same_out, product_is, neg_is, abs_is, sum_is_lem, at_most_in, below_in, le_out, lt_out}
use lib.Signed.{≤ℤ_refl}
use lib.IntN.{neg_ℤ-neg_ℤ, ℤ_discrete}

-- the three cases of the nearest number
nearest_is : (n d : ℕ) → ((2 * (n % d) < d) × (nearest n d ≡ n / d)) ⊎ (((d < 2 * (n % d)) × (nearest n d ≡ n / d + 1)) ⊎ ((2 * (n % d) ≡ d) × (nearest n d ≡ n / d + n / d % 2)))
unfolding nearest
nearest_is n d = grind (arith, nat_tests)

-- twice the nearest number lies at most one step from twice n / d, and at one step it is even
pub record IsNear (n d q : ℕ) : Type 0 where
  pub not_below : 2 * n ≤ 2 * (q * d) + d
  pub not_above : 2 * (q * d) ≤ 2 * n + d
  pub even_below : 2 * n ≡ 2 * (q * d) + d → q % 2 ≡ 0
  pub even_above : 2 * (q * d) ≡ 2 * n + d → q % 2 ≡ 0

made_even : (q : ℕ) → (q + q % 2) % 2 ≡ 0
made_even q = omega arith

pub nearest-near : (n d : ℕ) → 0 < d → IsNear n d (nearest n d)
nearest-near n d h = at (nearest_is n d)
  where
    split : n / d * d + n % d ≡ n
    split = div-add-mod' n d

    at : ((2 * (n % d) < d) × (nearest n d ≡ n / d)) ⊎ (((d < 2 * (n % d)) × (nearest n d ≡ n / d + 1)) ⊎ ((2 * (n % d) ≡ d) × (nearest n d ≡ n / d + n / d % 2))) → IsNear n d (nearest n d)
    at (inl a) =
        let e = ap (λ q. q * d) a.1 in
        record { not_below = omega arith; not_above = omega arith; even_below = λ t. absurd (omega arith); even_above = λ t. absurd (omega arith) }
    at (inr (inl a)) =
        let e = ap (λ q. q * d) a.1 in
        record { not_below = omega arith; not_above = omega arith; even_below = λ t. absurd (omega arith); even_above = λ t. absurd (omega (arith, mod-lt n h)) }
    at (inr (inr a)) =
        let e = ap (λ q. q * d) a.1 in
        let odd : n / d % 2 ≤ 1 = omega arith in
        let k = mul-le-mul_right d odd in
        let even = ap (λ q. q % 2) a.1 ∙ made_even (n / d) in
        record { not_below = omega arith; not_above = omega arith; even_below = λ t. even; even_above = λ t. even }

-- ---- the same over the integers, for a step d above 0

record IsNearZ (n : ℤ) (d : ℕ) (q : ℤ) : Type 0 where
  pub not_below : 2 * (up n + down q * d) ≤ 2 * (up q * d + down n) + d
  pub not_above : 2 * (up q * d + down n) ≤ 2 * (up n + down q * d) + d
  pub even_below : 2 * (up n + down q * d) ≡ 2 * (up q * d + down n) + d → unsigned_abs q % 2 ≡ 0
  pub even_above : 2 * (up q * d + down n) ≡ 2 * (up n + down q * d) + d → unsigned_abs q % 2 ≡ 0

neg-near : (n d q : ℕ) → IsNear (suc n) d q → IsNearZ (negsuc n) d (neg_ℤ (pos q))
neg-near n d q h =
    let e = neg_is (pos q) in
    let u = ap (λ k. k * d) e.0 in
    let v = ap (λ k. k * d) e.1 in
    let a : unsigned_abs (neg_ℤ (pos q)) ≡ q = omega (arith, abs_is (neg_ℤ (pos q))) in
    let par = ap (λ k. k % 2) a in
    record {
      not_below = omega (arith, h.not_above);
      not_above = omega (arith, h.not_below);
      even_below = λ t. par ∙ h.even_above (omega arith);
      even_above = λ t. par ∙ h.even_below (omega arith);
    }

pos-near : (n d q : ℕ) → IsNear n d q → IsNearZ (pos n) d (pos q)
pos-near n d q h = record {
  not_below = omega (arith, h.not_below);
  not_above = omega (arith, h.not_above);
  even_below = λ t. h.even_below (omega arith);
  even_above = λ t. h.even_above (omega arith);
}

distance-is : (n q : ℤ) (d : ℕ) → distance n (pos d) q ≡ ((up n + down q * d) - (up q * d + down n)) + ((up q * d + down n) - (up n + down q * d))
distance-is n q d = omega (arith, ints)

-- another number lies a whole step further off
apart : (q r : ℤ) (d : ℕ) → r ≢ q → (up q * d + down r * d + d ≤ up r * d + down q * d) ⊎ (up r * d + down q * d + d ≤ up q * d + down r * d)
apart q r d ne =
    elim (cases_lt (up q + down r) (up r + down q)) [
      | inl h ↦
          let strict : up q + down r + 1 ≤ up r + down q = omega arith in
          let k = mul-le-mul_right d strict in
          inl (omega arith)
      | inr h ↦
          let strict : up r + down q + 1 ≤ up q + down r = omega (arith, λ (t : up r + down q ≡ up q + down r). ne (same_in r q t)) in
          let k = mul-le-mul_right d strict in
          inr (omega arith)
    ]

near-half_even : (n : ℤ) (d : ℕ) (q : ℤ) → IsNearZ n d q → IsHalfEven n (pos d) q
near-half_even n d q h = record { nearest = λ r. nearest_of r (ℤ_discrete r q); even = even_of }
  where
    mine : distance n (pos d) q ≡ ((up n + down q * d) - (up q * d + down n)) + ((up q * d + down n) - (up n + down q * d))
    mine = distance-is n q d

    nearest_of : (r : ℤ) → Dec (r ≡ q) → distance n (pos d) q ≤ distance n (pos d) r
    nearest_of r (yes e) = subst (λ k. distance n (pos d) q ≤ distance n (pos d) k) (sym e) (omega arith)
    nearest_of r (no ne) = elim (apart q r d ne) [
      | inl a ↦ omega (arith, mine, distance-is n r d, h.not_below, h.not_above)
      | inr a ↦ omega (arith, mine, distance-is n r d, h.not_below, h.not_above)
    ]

    even_of : (r : ℤ) → r ≢ q → distance n (pos d) r ≡ distance n (pos d) q → unsigned_abs q % 2 ≡ 0
    even_of r ne e = elim (apart q r d ne) [
      | inl a ↦ h.even_below (omega (arith, mine, distance-is n r d, h.not_below, h.not_above))
      | inr a ↦ h.even_above (omega (arith, mine, distance-is n r d, h.not_below, h.not_above))
    ]

next-is : (q : ℤ) (d : ℕ) → up (q +ℤ pos 1) * d + down q * d ≡ down (q +ℤ pos 1) * d + up q * d + d
next-is q d = let e = ap (λ k. k * d) (sum_is_lem q (pos 1)) in omega arith

next-apart : (q : ℤ) → q +ℤ pos 1 ≢ q
next-apart q e = omega (arith, same_out (q +ℤ pos 1) q e, sum_is_lem q (pos 1))

previous-is : (q : ℤ) (d : ℕ) → up (q +ℤ negsuc 0) * d + down q * d + d ≡ down (q +ℤ negsuc 0) * d + up q * d
previous-is q d = let e = ap (λ k. k * d) (sum_is_lem q (negsuc 0)) in omega arith

previous-apart : (q : ℤ) → q +ℤ negsuc 0 ≢ q
previous-apart q e = omega (arith, same_out (q +ℤ negsuc 0) q e, sum_is_lem q (negsuc 0))

half_even-near : (n : ℤ) (d : ℕ) (q : ℤ) → 0 < d → IsHalfEven n (pos d) q → IsNearZ n d q
half_even-near n d q p h =
    let mine = distance-is n q d in
    let next = q +ℤ pos 1 in
    let previous = q +ℤ negsuc 0 in
    let a = distance-is n next d in
    let b = distance-is n previous d in
    let c = next-is q d in
    let e = previous-is q d in
    let f = h.nearest next in
    let g = h.nearest previous in
    record {
      not_below = omega arith;
      not_above = omega arith;
      even_below = λ t. h.even next (next-apart q) (omega arith);
      even_above = λ t. h.even previous (previous-apart q) (omega arith);
    }

-- two near numbers are one
size-parts : (z : ℤ) → unsigned_abs z ≡ up z + down z
size-parts (pos n) = omega arith
size-parts (negsuc n) = omega arith

near-not_below : (n : ℤ) (d : ℕ) (q r : ℤ) → 0 < d → IsNearZ n d q → IsNearZ n d r → up q + down r < up r + down q → ⊥
near-not_below n d q r p a b h =
    elim (cases_lt (up q + down r + 1) (up r + down q)) [
      | inl far ↦
          let two : up q + down r + 2 ≤ up r + down q = omega arith in
          let k = mul-le-mul_right d two in
          omega (arith, a.not_below, b.not_above)
      | inr close ↦
          let one : up r + down q ≡ up q + down r + 1 = omega arith in
          let k = ap (λ x. x * d) one in
          let even : unsigned_abs q % 2 ≡ 0 = a.even_below (omega (arith, a.not_below, b.not_above)) in
          let even' : unsigned_abs r % 2 ≡ 0 = b.even_above (omega (arith, a.not_below, b.not_above)) in
          omega (arith, size-parts q, size-parts r)
    ]

near-only : (n : ℤ) (d : ℕ) (q r : ℤ) → 0 < d → IsNearZ n d q → IsNearZ n d r → q ≡ r
near-only n d q r p a b =
    elim (cases_lt (up q + down r) (up r + down q)) [
      | inl h ↦ absurd (near-not_below n d q r p a b h)
      | inr h ↦ elim (cases_lt (up r + down q) (up q + down r)) [
        | inl k ↦ absurd (near-not_below n d r q p b a k)
        | inr k ↦ same_in q r (omega arith)
      ]
    ]

-- ---- a step below 0 is that step above 0 with the quotient's sign turned

negsuc-sign : (q : ℤ) (d : ℕ) → q *ℤ negsuc d ≡ neg_ℤ q *ℤ pos (suc d)
negsuc-sign (pos zero) d = rw zero-mul
negsuc-sign (pos (suc k)) d = refl
negsuc-sign (negsuc k) d = refl

turned : (n q : ℤ) (d : ℕ) → distance n (negsuc d) q ≡ distance n (pos (suc d)) (neg_ℤ q)
turned n q d = ap (λ z. unsigned_abs (n -ℤ z)) (negsuc-sign q d)

size-neg : (z : ℤ) → unsigned_abs (neg_ℤ z) ≡ unsigned_abs z
size-neg z = omega (arith, ints)

neg-apart : (q r : ℤ) → r ≢ q → neg_ℤ r ≢ neg_ℤ q
neg-apart q r h e = h (sym (neg_ℤ-neg_ℤ r) ∙ ap neg_ℤ e ∙ neg_ℤ-neg_ℤ q)

turn : (n q : ℤ) (d : ℕ) → IsHalfEven n (pos (suc d)) (neg_ℤ q) → IsHalfEven n (negsuc d) q
turn n q d h = record {
  nearest = λ r. rw (turned n q d, turned n r d) (h.nearest (neg_ℤ r));
  even = λ r ne e. sym (ap (λ k. k % 2) (size-neg q)) ∙ h.even (neg_ℤ r) (neg-apart q r ne) (sym (turned n r d) ∙ e ∙ turned n q d);
}

turned_back : (n q : ℤ) (d : ℕ) → distance n (pos (suc d)) q ≡ distance n (negsuc d) (neg_ℤ q)
turned_back n q d = ap (λ z. distance n (pos (suc d)) z) (sym (neg_ℤ-neg_ℤ q)) ∙ sym (turned n (neg_ℤ q) d)

turn_back : (n q : ℤ) (d : ℕ) → IsHalfEven n (negsuc d) q → IsHalfEven n (pos (suc d)) (neg_ℤ q)
turn_back n q d h = record {
  nearest = λ r. rw (← turned n q d, turned_back n r d) (h.nearest (neg_ℤ r));
  even = λ r ne e. ap (λ k. k % 2) (size-neg q) ∙ h.even (neg_ℤ r) (λ t. ne (sym (neg_ℤ-neg_ℤ r) ∙ ap neg_ℤ t)) (sym (turned_back n r d) ∙ e ∙ sym (turned n q d));
}

pub half_even-is : (n d : ℤ) → d ≢ pos 0 → IsHalfEven n d (half_even n d)
unfolding half_even
half_even-is (pos n) (pos zero) h = absurd (h refl)
half_even-is (pos n) (pos (suc d)) h = near-half_even (pos n) (suc d) (pos (nearest n (suc d))) (pos-near n (suc d) (nearest n (suc d)) (nearest-near n (suc d) (omega arith)))
half_even-is (negsuc n) (pos zero) h = absurd (h refl)
half_even-is (negsuc n) (pos (suc d)) h = near-half_even (negsuc n) (suc d) (neg_ℤ (pos (nearest (suc n) (suc d)))) (neg-near n (suc d) (nearest (suc n) (suc d)) (nearest-near (suc n) (suc d) (omega arith)))
half_even-is (pos n) (negsuc d) h = turn (pos n) (neg_ℤ (pos (nearest n (suc d)))) d (rw neg_ℤ-neg_ℤ (near-half_even (pos n) (suc d) (pos (nearest n (suc d))) (pos-near n (suc d) (nearest n (suc d)) (nearest-near n (suc d) (omega arith)))))
half_even-is (negsuc n) (negsuc d) h = turn (negsuc n) (pos (nearest (suc n) (suc d))) d (near-half_even (negsuc n) (suc d) (neg_ℤ (pos (nearest (suc n) (suc d)))) (neg-near n (suc d) (nearest (suc n) (suc d)) (nearest-near (suc n) (suc d) (omega arith))))

pub half_even-only : (n d q r : ℤ) → d ≢ pos 0 → IsHalfEven n d q → IsHalfEven n d r → q ≡ r
half_even-only n (pos zero) q r h a b = absurd (h refl)
half_even-only n (pos (suc d)) q r h a b = near-only n (suc d) q r (omega arith) (half_even-near n (suc d) q (omega arith) a) (half_even-near n (suc d) r (omega arith) b)
half_even-only n (negsuc d) q r h a b =
    sym (neg_ℤ-neg_ℤ q) ∙ ap neg_ℤ (near-only n (suc d) (neg_ℤ q) (neg_ℤ r) (omega arith) (half_even-near n (suc d) (neg_ℤ q) (omega arith) (turn_back n q d a)) (half_even-near n (suc d) (neg_ℤ r) (omega arith) (turn_back n r d b))) ∙ neg_ℤ-neg_ℤ r

-- ---- the floor

-- the quotient q that rounds down has q * d ≤ n < q * d + d
record IsBelowZ (n : ℤ) (d : ℕ) (q : ℤ) : Type 0 where
  pub at_most : up q * d + down n ≤ down q * d + up n
  pub above : down q * d + up n < up q * d + down n + d

div_euclid-below : (n : ℤ) (d : ℕ) → 0 < d → IsBelowZ n d (int_div_euclid n (pos d))
div_euclid-below (pos n) d h = record { at_most = omega arith; above = omega arith }
div_euclid-below (negsuc n) d h = record { at_most = omega arith; above = omega arith }

-- a product with a number above 0
times-is : (k : ℤ) (d : ℕ) → (up (k *ℤ pos d) ≡ up k * d) × (down (k *ℤ pos d) ≡ down k * d)
times-is k d = (omega (arith, product_is k (pos d)), omega (arith, product_is k (pos d)))

below-floor : (n : ℤ) (d : ℕ) (q : ℤ) → 0 < d → IsBelowZ n d q → IsFloor n (pos d) q
below-floor n d q p h k = (down_to, up_to)
  where
    down_to : k ≤ℤ q → IsAtMostRatio k n (pos d)
    down_to le =
        let a : up k + down q ≤ up q + down k = omega (arith, ints) in
        let b = mul-le-mul_right d a in
        let e = times-is k d in
        let c : up (k *ℤ pos d) + down n ≤ up n + down (k *ℤ pos d) = omega (arith, h.at_most) in
        let g = mul-le-mul_right d c in
        at_most_in ((k *ℤ pos d) *ℤ pos d) (n *ℤ pos d) (omega (arith, times-is (k *ℤ pos d) d, times-is n d))

    up_to : IsAtMostRatio k n (pos d) → k ≤ℤ q
    up_to le =
        let e = times-is k d in
        let a : (up (k *ℤ pos d) + down n) * d ≤ (up n + down (k *ℤ pos d)) * d = omega (arith, le_out ((k *ℤ pos d) *ℤ pos d) (n *ℤ pos d) le, times-is (k *ℤ pos d) d, times-is n d) in
        let b : up (k *ℤ pos d) + down n ≤ up n + down (k *ℤ pos d) = le_of_mul-le-mul_right a p in
        elim (cases_lt (up q + down k) (up k + down q)) [
          | inl far ↦
              let one : up q + down k + 1 ≤ up k + down q = omega arith in
              let c = mul-le-mul_right d one in
              absurd (omega (arith, h.above))
          | inr close ↦ at_most_in k q (omega arith)
        ]

neg-times : (z : ℤ) (d : ℕ) → neg_ℤ (z *ℤ pos d) ≡ neg_ℤ z *ℤ pos d
neg-times z d = same_in (neg_ℤ (z *ℤ pos d)) (neg_ℤ z *ℤ pos d) (omega (arith, neg_is (z *ℤ pos d), times-is z d, times-is (neg_ℤ z) d, ap (λ k. k * d) (neg_is z).0, ap (λ k. k * d) (neg_is z).1))

-- both sides of the ratio keep their value as both signs turn
ratio-left : (k : ℤ) (d : ℕ) → (k *ℤ negsuc d) *ℤ negsuc d ≡ (k *ℤ pos (suc d)) *ℤ pos (suc d)
ratio-left k d = negsuc-sign (k *ℤ negsuc d) d ∙ ap (λ z. neg_ℤ z *ℤ pos (suc d)) (negsuc-sign k d)
    ∙ ap (λ z. z *ℤ pos (suc d)) (neg-times (neg_ℤ k) (suc d) ∙ ap (λ z. z *ℤ pos (suc d)) (neg_ℤ-neg_ℤ k))

ratio-turned : (n k : ℤ) (d : ℕ) → IsAtMostRatio k n (negsuc d) ≡ IsAtMostRatio k (neg_ℤ n) (pos (suc d))
ratio-turned n k d = (λ i. ratio-left k d i ≤ℤ negsuc-sign n d i)

pub floor-is : (n d : ℤ) → d ≢ pos 0 → IsFloor n d (floor_of n d)
unfolding floor_of
floor-is n (pos zero) h = absurd (h refl)
floor-is n (pos (suc d)) h = below-floor n (suc d) (int_div_euclid n (pos (suc d))) (omega arith) (div_euclid-below n (suc d) (omega arith))
floor-is n (negsuc d) h = λ k. rw ratio-turned (below-floor (neg_ℤ n) (suc d) (int_div_euclid (neg_ℤ n) (pos (suc d))) (omega arith) (div_euclid-below (neg_ℤ n) (suc d) (omega arith)) k)

pub floor-only : (n d q r : ℤ) → IsFloor n d q → IsFloor n d r → q ≡ r
floor-only n d q r a b = same_in q r (omega (arith, le_out q r ((b q).1 ((a q).0 (≤ℤ_refl q))), le_out r q ((a r).1 ((b r).0 (≤ℤ_refl r)))))

-- ---- what lies above it

rest-pos : (n q : ℤ) (d : ℕ) → IsBelowZ n d q → (pos 0 ≤ℤ (n -ℤ q *ℤ pos d)) × ((n -ℤ q *ℤ pos d) <ℤ pos d)
rest-pos n q d h =
    let s = sum_is_lem n (neg_ℤ (q *ℤ pos d)) in
    let t = neg_is (q *ℤ pos d) in
    let e = times-is q d in
    (at_most_in (pos 0) (n -ℤ q *ℤ pos d) (omega (arith, h.at_most)), below_in (n -ℤ q *ℤ pos d) (pos d) (omega (arith, h.above)))

rest-neg : (n q : ℤ) (d : ℕ) → IsBelowZ (neg_ℤ n) (suc d) q → (negsuc d <ℤ (n -ℤ q *ℤ negsuc d)) × ((n -ℤ q *ℤ negsuc d) ≤ℤ pos 0)
rest-neg n q d h =
    let e = negsuc-sign q d in
    let s = sum_is_lem n (neg_ℤ (neg_ℤ q *ℤ pos (suc d))) in
    let t = neg_is (neg_ℤ q *ℤ pos (suc d)) in
    let u = times-is (neg_ℤ q) (suc d) in
    let v = ap (λ k. k * suc d) (neg_is q).0 in
    let w = ap (λ k. k * suc d) (neg_is q).1 in
    let x = neg_is n in
    (rw e (below_in (negsuc d) (n -ℤ neg_ℤ q *ℤ pos (suc d)) (omega (arith, h.above))), rw e (at_most_in (n -ℤ neg_ℤ q *ℤ pos (suc d)) (pos 0) (omega (arith, h.at_most))))

pub rest-towards : (n d : ℤ) → d ≢ pos 0 → LiesTowards d (rest_of n d)
unfolding floor_of
rest-towards n (pos zero) h = absurd (h refl)
rest-towards n (pos (suc d)) h = record {
  above_zero = λ _. rest-pos n (int_div_euclid n (pos (suc d))) (suc d) (div_euclid-below n (suc d) (omega arith));
  below_zero = λ t. absurd (omega (arith, lt_out (pos (suc d)) (pos 0) t));
}
rest-towards n (negsuc d) h = record {
  above_zero = λ t. absurd (omega (arith, lt_out (pos 0) (negsuc d) t));
  below_zero = λ _. rest-neg n (int_div_euclid (neg_ℤ n) (pos (suc d))) d (div_euclid-below (neg_ℤ n) (suc d) (omega arith));
}

-- the remainder of std's euclidean division is that rest
rest-euclid : (n : ℤ) (d : ℕ) → 0 < d → int_rem_euclid n (pos d) ≡ n -ℤ int_div_euclid n (pos d) *ℤ pos d
rest-euclid (pos a) d h = same_in (pos (a % d)) (pos a -ℤ pos (a / d) *ℤ pos d) (omega (arith, sum_is_lem (pos a) (neg_ℤ (pos (a / d) *ℤ pos d)), neg_is (pos (a / d) *ℤ pos d), div-add-mod' a d))
rest-euclid (negsuc a) d h = same_in (pos (d - 1 - a % d)) (negsuc a -ℤ negsuc (a / d) *ℤ pos d) (omega (arith, sum_is_lem (negsuc a) (neg_ℤ (negsuc (a / d) *ℤ pos d)), neg_is (negsuc (a / d) *ℤ pos d), times-is (negsuc (a / d)) d, div-add-mod' a d, mod-lt a h))

-- what the code computes, by the divisor's sign
pub floor-above : (n d : ℤ) → pos 0 <ℤ d → int_div_euclid n d ≡ floor_of n d
unfolding floor_of
floor-above n (pos d) h = refl
floor-above n (negsuc d) h = absurd (omega (arith, lt_out (pos 0) (negsuc d) h))

pub floor-below : (n d : ℤ) → d <ℤ pos 0 → int_div_euclid (neg_ℤ n) (neg_ℤ d) ≡ floor_of n d
unfolding floor_of
floor-below n (pos d) h = absurd (omega (arith, lt_out (pos d) (pos 0) h))
floor-below n (negsuc d) h = refl

pub rest-above : (n d : ℤ) → pos 0 <ℤ d → int_rem_euclid n d ≡ rest_of n d
unfolding floor_of
rest-above n (pos d) h = rest-euclid n d (omega (arith, lt_out (pos 0) (pos d) h))
rest-above n (negsuc d) h = absurd (omega (arith, lt_out (pos 0) (negsuc d) h))

pub rest-below : (n d : ℤ) → d <ℤ pos 0 → neg_ℤ (int_rem_euclid (neg_ℤ n) (neg_ℤ d)) ≡ rest_of n d
unfolding floor_of
rest-below n (pos d) h = absurd (omega (arith, lt_out (pos d) (pos 0) h))
rest-below n (negsuc d) h = ap neg_ℤ (rest-euclid (neg_ℤ n) (suc d) (omega arith)) ∙ at (int_div_euclid (neg_ℤ n) (pos (suc d)))
  where
    at : (q : ℤ) → neg_ℤ (neg_ℤ n -ℤ q *ℤ pos (suc d)) ≡ n -ℤ q *ℤ negsuc d
    at q =
        let s = sum_is_lem (neg_ℤ n) (neg_ℤ (q *ℤ pos (suc d))) in
        let e = negsuc-sign q d ∙ sym (neg-times q (suc d)) in
        let t = sum_is_lem n (neg_ℤ (neg_ℤ (q *ℤ pos (suc d)))) in
        rw e (same_in (neg_ℤ (neg_ℤ n -ℤ q *ℤ pos (suc d))) (n -ℤ neg_ℤ (q *ℤ pos (suc d))) (omega (arith, neg_is n, neg_is (q *ℤ pos (suc d)), neg_is (neg_ℤ (q *ℤ pos (suc d))), neg_is (neg_ℤ n -ℤ q *ℤ pos (suc d)))))

-- ---- the signs of a rounded quotient

not_negative : (n : ℕ) → int_lt (pos n) (pos 0) ≡ false
not_negative n = grind (arith, nat_tests)

pub half_even-like : (n d : ℤ) → beq (int_lt n (pos 0)) (int_lt d (pos 0)) ≡ true → pos (nearest (unsigned_abs n) (unsigned_abs d)) ≡ half_even n d
unfolding half_even
half_even-like (pos n) (pos d) e = refl
half_even-like (pos n) (negsuc d) e = let h = rw (not_negative n) at e in cc
half_even-like (negsuc n) (pos d) e = let h = rw (not_negative d) at e in cc
half_even-like (negsuc n) (negsuc d) e = refl

pub half_even-unlike : (n d : ℤ) → beq (int_lt n (pos 0)) (int_lt d (pos 0)) ≡ false → neg_ℤ (pos (nearest (unsigned_abs n) (unsigned_abs d))) ≡ half_even n d
unfolding half_even
half_even-unlike (pos n) (pos d) e = let h = rw (not_negative n, not_negative d) at e in cc
half_even-unlike (pos n) (negsuc d) e = refl
half_even-unlike (negsuc n) (pos d) e = refl
half_even-unlike (negsuc n) (negsuc d) e = cc

pub floor-small : (n d : ℤ) → unsigned_abs (floor_of n d) ≤ unsigned_abs n
unfolding floor_of
floor-small (pos n) (pos d) = div-le_self n d
floor-small (negsuc n) (pos d) = omega (arith, div-le_self n d)
floor-small (pos zero) (negsuc d) = div-le_self zero (suc d)
floor-small (pos (suc n)) (negsuc d) = omega (arith, div-le_self n (suc d))
floor-small (negsuc n) (negsuc d) = div-le_self (suc n) (suc d)

-- ---- the distance is at most half a step

pub half_even-half : (n d q : ℤ) → d ≢ pos 0 → IsHalfEven n d q → 2 * distance n d q ≤ unsigned_abs d
half_even-half n (pos zero) q ne h = absurd (ne refl)
half_even-half n (pos (suc d)) q ne h =
    let a = half_even-near n (suc d) q (omega arith) h in
    omega (arith, distance-is n q (suc d), a.not_below, a.not_above)
half_even-half n (negsuc d) q ne h =
    let a = half_even-near n (suc d) (neg_ℤ q) (omega arith) (turn_back n q d h) in
    omega (arith, turned n q d, distance-is n (neg_ℤ q) (suc d), a.not_below, a.not_above)
