-- The greatest of some numbers is at most so much where each of them is.
use Rattle.std.proofs.Common.{◌≡◌, ℕ, ◌+◌, ◌-◌, ◌<◌, ◌≤◌, Bool, true, false, nat_le, ◌&&◌, ◌^◌, max, min, List, [], ◌∷◌, refl, sym, ap, ◌∙◌, arith, inl, inr}
use Rattle.std.proofs.lemmas.Bool.Decides.{leb_tells}
use Rattle.mx_expression.specs.Loops.{greatest}
use Rattle.mx_parse.specs.FewLoops.{few}

pub le_true : (a m : ℕ) → a ≤ m → nat_le a m ≡ true
le_true a m h = elim (leb_tells a m) [ inl t ↦ t.0 | inr t ↦ absurd (omega (arith, t.1)) ]

pub le_false : (a m : ℕ) → m < a → nat_le a m ≡ false
le_false a m h = elim (leb_tells a m) [ inl t ↦ absurd (omega (arith, t.1)) | inr t ↦ t.0 ]

pub le_is : (a m : ℕ) → nat_le a m ≡ true → a ≤ m
le_is a m h = elim (leb_tells a m) [ inl t ↦ t.1 | inr t ↦ absurd (let e = sym h ∙ t.0 in cc) ]

by_first : (a b m : ℕ) (p q : Bool) → nat_le a m ≡ p → nat_le b m ≡ q → nat_le (max a b) m ≡ (p && q)
by_first a b m true true h k = let x = le_is a m h in let y = le_is b m k in le_true (max a b) m (omega (arith, x, y))
by_first a b m true false h k = elim (leb_tells b m) [ inl t ↦ absurd (let e = sym k ∙ t.0 in cc) | inr t ↦ le_false (max a b) m (omega (arith, t.1)) ]
by_first a b m false q h k = elim (leb_tells a m) [ inl t ↦ absurd (let e = sym h ∙ t.0 in cc) | inr t ↦ le_false (max a b) m (omega (arith, t.1)) ]

pub le_max : (a b m : ℕ) → nat_le (max a b) m ≡ (nat_le a m && nat_le b m)
le_max a b m = by_first a b m (nat_le a m) (nat_le b m) refl refl

pub le_greatest : (ns : List ℕ) (m : ℕ) → nat_le (greatest ns) m ≡ few m ns
le_greatest [] m = le_true 0 m (omega arith)
le_greatest (n ∷ ns) m = le_max n (greatest ns) m ∙ ap (λ (b : Bool). nat_le n m && b) (le_greatest ns m)

-- ---- what the code does with two parts, one after the other

pub le_both : (a b m : ℕ) → nat_le a m ≡ true → nat_le (max a b) m ≡ nat_le b m
le_both a b m h = le_max a b m ∙ ap (λ (p : Bool). p && nat_le b m) h

pub le_not : (a b m : ℕ) → nat_le a m ≡ false → nat_le (max a b) m ≡ false
le_not a b m h = le_max a b m ∙ ap (λ (p : Bool). p && nat_le b m) h

-- one loop more
pub le_loop : (a m : ℕ) → 0 < m → nat_le (a + 1) m ≡ nat_le a (m - 1)
le_loop a m some = elim (leb_tells a (m - 1)) [ inl t ↦ le_true (a + 1) m (omega (arith, t.1)) ∙ sym t.0 | inr t ↦ le_false (a + 1) m (omega (arith, t.1)) ∙ sym t.0 ]

pub le_none : (a m : ℕ) → m ≡ 0 → nat_le (a + 1) m ≡ false
le_none a m none = le_false (a + 1) m (omega (arith, none))

-- a count that is cut at the greatest of 32 bits, beside a number of 8 bits
pub le_capped : (a m : ℕ) → m < 256 → nat_le (min a (2 ^ 32 - 1)) m ≡ nat_le a m
le_capped a m small = elim (leb_tells a m) [ inl t ↦ le_true (min a (2 ^ 32 - 1)) m (omega (arith, t.1)) ∙ sym t.0 | inr t ↦ le_false (min a (2 ^ 32 - 1)) m (omega (arith, small, t.1)) ∙ sym t.0 ]
