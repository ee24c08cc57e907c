-- The arithmetic of decimal numbers, on their raw numbers: whole numbers of 10^-9.
use Rattle.std.specs.Prelude.{◌≡◌, ◌≢◌, ℕ, zero, suc, ◌+◌, ◌*◌, ◌^◌, ◌<◌, ◌≤◌, Bool, true, false, nat_le, nat_lt, ◌==◌, ◌||◌, if◌then◌else◌, ℤ, pos, negsuc, ◌+ℤ◌, ◌-ℤ◌, ◌*ℤ◌, ◌≤ℤ◌, ◌<ℤ◌, int_le, unsigned_abs, Result, Ok, Err, IsOkAnd}
use Rattle.std.specs.Ordering.{int_eq}
use Rattle.std.specs.Int.{is_negative}
use Rattle.mx_value.specs.declared.fixed.NumFault.{NumFault}
use Rattle.mx_value.specs.declared.fixed.NumFault.TheVariants.{Overflow, ZeroDivision, Domain}
use Rattle.mx_value.specs.Rounding.{half_even, floor_of, rest_of}

-- 1.0
abbrev pub one : ℤ
one = pos (10 ^ 9)

abbrev pub IsInRange : ℤ → Type 0
IsInRange z = unsigned_abs z ≤ 10 ^ 19

-- z, where it is in range
unfoldable pub checked : ℤ → Result ℤ NumFault
checked z = if nat_le (unsigned_abs z) (10 ^ 19) then Ok z else Err Overflow

-- the value that comes of a value; the first fault stands
abbrev pub and_then : Result ℤ NumFault → (ℤ → Result ℤ NumFault) → Result ℤ NumFault
and_then (Ok z) f = f z
and_then (Err e) f = Err e

-- the call `Fixed::from_int`, and so on below
unfoldable pub fixed_from_int : ℤ → Result ℤ NumFault
fixed_from_int n = if nat_le (unsigned_abs n) (10 ^ 10) then Ok (n *ℤ one) else Err Overflow

unfoldable pub fixed_add : ℤ → ℤ → Result ℤ NumFault
fixed_add x y = checked (x +ℤ y)

unfoldable pub fixed_sub : ℤ → ℤ → Result ℤ NumFault
fixed_sub x y = checked (x -ℤ y)

unfoldable pub fixed_mul : ℤ → ℤ → Result ℤ NumFault
fixed_mul x y = checked (half_even (x *ℤ y) one)

unfoldable pub fixed_div : ℤ → ℤ → Result ℤ NumFault
fixed_div x y = if int_eq y (pos 0) then Err ZeroDivision else checked (half_even (x *ℤ one) y)

unfoldable pub fixed_floor_div : ℤ → ℤ → Result ℤ NumFault
fixed_floor_div x y = if int_eq y (pos 0) then Err ZeroDivision else checked (floor_of x y *ℤ one)

unfoldable pub fixed_rem : ℤ → ℤ → Result ℤ NumFault
fixed_rem x y = if int_eq y (pos 0) then Err ZeroDivision else Ok (rest_of x y)

-- 1.0, multiplied n times by x
unfoldable pub power_of : ℤ → ℕ → Result ℤ NumFault
power_of x zero = Ok one
power_of x (suc n) = and_then (power_of x n) (λ p. fixed_mul p x)

unfoldable pub fixed_pow : ℤ → ℤ → Result ℤ NumFault
fixed_pow x (pos n) = if nat_lt 10_000 n then Err Domain else power_of x n
fixed_pow x (negsuc n) =
    if nat_lt 10_000 (n + 1) then Err Domain else and_then (power_of x (n + 1)) (λ p. fixed_div one p)

-- the greatest number up to n that passes the test, or 0
unfoldable pub greatest : (ℕ → Bool) → ℕ → ℕ
greatest test zero = zero
greatest test (suc n) = if test (suc n) then suc n else greatest test n

abbrev pub is_at_most : Result ℤ NumFault → ℤ → Bool
is_at_most (Ok p) x = int_le p x
is_at_most (Err e) x = false

unfoldable pub fixed_root : ℤ → ℕ → Result ℤ NumFault
fixed_root x n =
    if is_negative x || (n == 0 || nat_lt 10_000 n) then Err Domain
    else Ok (pos (greatest (λ r. is_at_most (fixed_pow (pos r) (pos n)) x) (10 ^ 19)))

-- r is the greatest number from 0 whose power n is at most x; a power that is a fault is greater
pub record IsRoot (x : ℤ) (n : ℕ) (r : ℤ) : Type 0 where
  pub not_negative : pos 0 ≤ℤ r
  pub reached : IsOkAnd (fixed_pow r (pos n)) (λ p. p ≤ℤ x)
  pub greatest : (s : ℤ) → pos 0 ≤ℤ s → IsInRange s → IsOkAnd (fixed_pow s (pos n)) (λ p. p ≤ℤ x) → s ≤ℤ r

-- ---- laws

abbrev pub AddKeepsOrder : Type 0
AddKeepsOrder = (x y z a b : ℤ) → x ≤ℤ y → fixed_add x z ≡ Ok a → fixed_add y z ≡ Ok b → a ≤ℤ b

-- the power of a root is at most the number, and that of the next base above it
abbrev pub RootBrackets : Type 0
RootBrackets =
    (x : ℤ) (n : ℕ) (r p q : ℤ) → fixed_root x n ≡ Ok r → fixed_pow r (pos n) ≡ Ok p
    → IsInRange (r +ℤ pos 1) → fixed_pow (r +ℤ pos 1) (pos n) ≡ Ok q → (p ≤ℤ x) × (x <ℤ q)

-- a quotient times the divisor is off by half a unit and half a unit of the quotient at most
abbrev pub QuotientThenProduct : Type 0
QuotientThenProduct =
    (x y q p : ℤ) → y ≢ pos 0 → fixed_div x y ≡ Ok q → fixed_mul q y ≡ Ok p
    → 2 * (unsigned_abs (p -ℤ x) * 10 ^ 9) ≤ unsigned_abs y + 10 ^ 9
