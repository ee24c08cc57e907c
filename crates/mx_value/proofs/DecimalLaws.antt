-- Laws of decimal numbers for those who compute with them.
use Rattle.std.proofs.Common.{◌≡◌, ◌≢◌, ℕ, suc, ◌+◌, ◌*◌, ◌^◌, ◌≤◌, refl, sym, ◌∙◌, ap, subst, arith, ℤ, pos, negsuc, ◌+ℤ◌, ◌-ℤ◌, ◌*ℤ◌, ◌≤ℤ◌, ◌<ℤ◌, unsigned_abs, Result, Ok, IsOkAnd, IfOk}
use Rattle.std.proofs.lemmas.Int.{ints, by_lt_z}
use Rattle.mx_value.specs.declared.fixed.NumFault.{NumFault}
use Rattle.mx_value.specs.Rounding.{distance, IsHalfEven}
use Rattle.mx_value.specs.Fixed.{one, IsInRange, checked, fixed_add, fixed_mul, fixed_div, fixed_pow, fixed_root, IsRoot}
use Rattle.mx_value.proofs.RoundingLaws.{half_even-half}
use Rattle.mx_value.proofs.FixedLaws.{checked-in, checked-ok, mul-rounded, div-rounded}
use Rattle.mx_value.proofs.PowerLaws.{root-is}
use lib.IntN.{+ℤ_comm, +ℤ_idr}

pub add-commutes : (x y : ℤ) → fixed_add x y ≡ fixed_add y x
unfolding fixed_add
add-commutes x y = ap checked (+ℤ_comm x y)

pub add-zero : (x : ℤ) → IsInRange x → fixed_add x (pos 0) ≡ Ok x
unfolding fixed_add
add-zero x h = ap checked (+ℤ_idr x) ∙ checked-in x h

pub add-rises : (x y z a b : ℤ) → x ≤ℤ y → fixed_add x z ≡ Ok a → fixed_add y z ≡ Ok b → a ≤ℤ b
unfolding fixed_add
add-rises x y z a b le e f =
    let g = checked-ok (x +ℤ z) a e in
    let h = checked-ok (y +ℤ z) b f in
    let s : (x +ℤ z) ≤ℤ (y +ℤ z) = omega (arith, ints) in
    rw (g.0, h.0) s

root-at : (x : ℤ) (n : ℕ) (r : ℤ) → fixed_root x n ≡ Ok r → IsRoot x n r
root-at x n r e = subst (λ (z : Result ℤ NumFault). IfOk z (IsRoot x n)) e (root-is x n)

pub root-brackets : (x : ℤ) (n : ℕ) (r p q : ℤ) → fixed_root x n ≡ Ok r → fixed_pow r (pos n) ≡ Ok p → IsInRange (r +ℤ pos 1) → fixed_pow (r +ℤ pos 1) (pos n) ≡ Ok q → (p ≤ℤ x) × (x <ℤ q)
root-brackets x n r p q e f range g =
    let h = root-at x n r e in
    let next : pos 0 ≤ℤ (r +ℤ pos 1) = omega (arith, ints, h.not_negative) in
    let above : q ≤ℤ x → (r +ℤ pos 1) ≤ℤ r = λ le. h.greatest (r +ℤ pos 1) next range (subst (λ (z : Result ℤ NumFault). IsOkAnd z (λ t. t ≤ℤ x)) (sym g) le) in
    let below : p ≤ℤ x = subst (λ (z : Result ℤ NumFault). IsOkAnd z (λ t. t ≤ℤ x)) f h.reached in
    (below, by_lt_z x q (λ lt. lt) (λ le. absurd (let t = above le in omega (arith, ints, t))))

one-nonzero : one ≢ pos 0
one-nonzero e = omega (arith, ints)

triangle : (s t u : ℤ) (m n : ℕ) → 2 * unsigned_abs (s -ℤ t) ≤ m → 2 * unsigned_abs (t -ℤ u) ≤ n → 2 * unsigned_abs (u -ℤ s) ≤ m + n
triangle s t u m n h k = omega (arith, ints)

scaled-difference : (p x : ℤ) → unsigned_abs (p -ℤ x) * 10 ^ 9 ≡ unsigned_abs (p *ℤ one -ℤ x *ℤ one)
scaled-difference p x = omega (arith, ints)

-- back from a quotient by a product: at most half a divisor and half a unit off, times 10^9
pub div-mul : (x y q p : ℤ) → y ≢ pos 0 → fixed_div x y ≡ Ok q → fixed_mul q y ≡ Ok p → 2 * (unsigned_abs (p -ℤ x) * 10 ^ 9) ≤ unsigned_abs y + 10 ^ 9
div-mul x y q p ne e f =
    let a : IsHalfEven (x *ℤ one) y q = subst (λ (z : Result ℤ NumFault). IfOk z (IsHalfEven (x *ℤ one) y)) e (div-rounded x y) in
    let b : IsHalfEven (q *ℤ y) one p = subst (λ (z : Result ℤ NumFault). IfOk z (IsHalfEven (q *ℤ y) one)) f (mul-rounded q y) in
    let c = half_even-half (x *ℤ one) y q ne a in
    let d = half_even-half (q *ℤ y) one p one-nonzero b in
    omega (arith, triangle (x *ℤ one) (q *ℤ y) (p *ℤ one) (unsigned_abs y) (10 ^ 9) c d, scaled-difference p x)
