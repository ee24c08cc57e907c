-- Quotients of whole numbers: rounded to the nearest, ties to even, and rounded down.
use Rattle.std.specs.Prelude.{◌≡◌, ◌≢◌, ℕ, suc, ◌+◌, ◌*◌, ◌/◌, ◌%◌, ◌≤◌, ◌↔◌, nat_lt, if◌then◌else◌, ℤ, pos, negsuc, neg_ℤ, ◌-ℤ◌, ◌*ℤ◌, ◌≤ℤ◌, ◌<ℤ◌, unsigned_abs}
use Rattle.std.specs.Int.{int_div_euclid}

-- how far q times d lies from n
abbrev pub distance : ℤ → ℤ → ℤ → ℕ
distance n d q = unsigned_abs (n -ℤ q *ℤ d)

-- No whole number is nearer to n / d than q is, and where another is as near, q is the even one (IEEE 754's
-- roundTiesToEven). Distances are times d.
pub record IsHalfEven (n d q : ℤ) : Type 0 where
  pub nearest : (r : ℤ) → distance n d q ≤ distance n d r
  pub even : (r : ℤ) → r ≢ q → distance n d r ≡ distance n d q → unsigned_abs q % 2 ≡ 0

-- k is at most n / d: both sides are times d twice
abbrev pub IsAtMostRatio : ℤ → ℤ → ℤ → Type 0
IsAtMostRatio k n d = ((k *ℤ d) *ℤ d) ≤ℤ (n *ℤ d)

-- q is the greatest whole number that is at most n / d
abbrev pub IsFloor : ℤ → ℤ → ℤ → Type 0
IsFloor n d q = (k : ℤ) → (k ≤ℤ q) ↔ IsAtMostRatio k n d

-- the number nearest to n / d, the even one of two
unfoldable pub nearest : ℕ → ℕ → ℕ
nearest n d =
    if nat_lt (2 * (n % d)) d then n / d
    else (if nat_lt d (2 * (n % d)) then n / d + 1 else n / d + n / d % 2)

-- the one number with IsHalfEven, for a d other than 0
unfoldable pub half_even : ℤ → ℤ → ℤ
half_even (pos n) (pos d) = pos (nearest n d)
half_even (pos n) (negsuc d) = neg_ℤ (pos (nearest n (suc d)))
half_even (negsuc n) (pos d) = neg_ℤ (pos (nearest (suc n) d))
half_even (negsuc n) (negsuc d) = pos (nearest (suc n) (suc d))

-- the one number with IsFloor, for a d other than 0
unfoldable pub floor_of : ℤ → ℤ → ℤ
floor_of n (pos d) = int_div_euclid n (pos d)
floor_of n (negsuc d) = int_div_euclid (neg_ℤ n) (pos (suc d))

-- what n lies above its floor: n modulo d
abbrev pub rest_of : ℤ → ℤ → ℤ
rest_of n d = n -ℤ floor_of n d *ℤ d

-- r lies from 0 towards d and does not reach it
pub record LiesTowards (d r : ℤ) : Type 0 where
  pub above_zero : pos 0 <ℤ d → (pos 0 ≤ℤ r) × (r <ℤ d)
  pub below_zero : d <ℤ pos 0 → (d <ℤ r) × (r ≤ℤ pos 0)
