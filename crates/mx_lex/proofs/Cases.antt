-- Definitions by tests, taken apart.
use Rattle.std.proofs.Common.{◌≡◌, Bool, true, false, cond, refl, ◌⊎◌, inl, inr}

-- which way a test went
pub chosen : {X : Type 0} (b : Bool) (x y z : X) → cond b x y ≡ z → ((b ≡ true) × (x ≡ z)) ⊎ ((b ≡ false) × (y ≡ z))
chosen true x y z e = inl (refl, e)
chosen false x y z e = inr (refl, e)

-- what held of both ways holds
pub both : {X : Type 0} (P : X → Type 0) (b : Bool) (x y : X) → (b ≡ true → P x) → (b ≡ false → P y) → P (cond b x y)
both P true x y at_true at_false = at_true refl
both P false x y at_true at_false = at_false refl
