-- Tests of numbers.
use Rattle.std.proofs.Common.{◌≡◌, ◌≢◌, ℕ, ◌<◌, ◌≤◌, nat_le, nat_lt, ℤ, Bool, true, false, refl, arith}
use Rattle.std.specs.Ordering.{int_eq}
use Rattle.std.proofs.lemmas.Bool.Decides.{nat_tests, Decides-int_eq}

pub le-yes : (a b : ℕ) → a ≤ b → nat_le a b ≡ true
le-yes a b h = grind (arith, nat_tests)

pub le-no : (a b : ℕ) → (a ≤ b → ⊥) → nat_le a b ≡ false
le-no a b h = grind (arith, nat_tests)

pub lt-yes : (a b : ℕ) → a < b → nat_lt a b ≡ true
lt-yes a b h = grind (arith, nat_tests)

pub lt-no : (a b : ℕ) → b ≤ a → nat_lt a b ≡ false
lt-no a b h = grind (arith, nat_tests)

not_true : (t : Bool) → (t ≡ true → ⊥) → t ≡ false
not_true true h = absurd (h refl)
not_true false h = refl

pub eq-no : (x y : ℤ) → x ≢ y → int_eq x y ≡ false
eq-no x y h = not_true (int_eq x y) (λ t. h ((Decides-int_eq x y).0 t))

pub eq-yes : (x y : ℤ) → x ≡ y → int_eq x y ≡ true
eq-yes x y h = (Decides-int_eq x y).1 h
