-- Roots of degrees that no root has.
use Rattle.std.proofs.Common.{◌≡◌, ℕ, ◌<◌, ◌||◌, ◌==◌, Bool, true, false, ℤ, pos, negsuc, Err, refl, arith}
use Rattle.std.specs.Int.{FitsUnsignedBits, is_negative}
use Rattle.mx_value.specs.declared.fixed.NumFault.TheVariants.{Domain}
use Rattle.mx_value.specs.Fixed.{fixed_root}
use Rattle.mx_ops.specs.Builtins.{root}
use Rattle.mx_ops.proofs.Tests.{lt-yes}

either : (b c : Bool) → (b || (c || true)) ≡ true
either true c = refl
either false true = refl
either false false = refl

large : (x : ℤ) (n : ℕ) → 10_000 < n → Err Domain ≡ fixed_root x n
unfolding fixed_root
large x n h = rw (lt-yes 10_000 n h, either (is_negative x) (n == 0)) refl

-- a degree that is no u32
pub root-misses : (x n : ℤ) → (FitsUnsignedBits 32 n → ⊥) → Err Domain ≡ root x n
root-misses x (pos n) h = large x n (grind arith)
root-misses x (negsuc n) h = refl
