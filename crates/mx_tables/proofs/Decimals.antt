-- How much decimals say.
use Rattle.std.proofs.Common.{◌≡◌, ℕ, zero, suc, ◌+◌, ◌*◌, ◌-◌, ◌^◌, ◌≤◌, true, List, [], ◌∷◌, length, None, ap, ◌∙◌, arith}
use Rattle.std.specs.Prelude.{nat_le, ◌&&◌}
use Rattle.std.specs.List.{AllPass, list_all}
use Rattle.std.specs.Char.{is_ascii_digit}
use Rattle.std.proofs.lemmas.List.Elements.{All-head, All-tail}
use Rattle.std.proofs.lemmas.List.Sums.{AllPass-from_list_all}
use Rattle.std.proofs.lemmas.Bool.{and_parts, leb-true, le-leb}
use Rattle.std.proofs.lemmas.Bool.Decides.{nat_tests}
use Rattle.std.proofs.Math.Nat.{mul-le-mul_left, pow-succ' as pow-suc', mul_comm, mul_assoc, suc-mul}
use Rattle.mx_lex.specs.Spans.{digits_from}
use Rattle.mx_tables.specs.Numbers.{at_most, are_decimals}

pos_pow : (n : ℕ) → 1 ≤ 10 ^ n
pos_pow zero = omega arith
pos_pow (suc n) = omega (arith, pos_pow n, pow-suc' 10 n)

digit_most : (d : ℕ) → is_ascii_digit d ≡ true → d - 48 ≤ 9
digit_most d h = grind (arith, nat_tests, h)

-- one digit more is at most ten times as much
one_more : (v e p : ℕ) → e ≤ 9 → (v * 10 + e + 1) * p ≤ (v + 1) * (10 * p)
one_more v e p h =
    let q : p * (v * 10 + e + 1) ≤ p * ((v + 1) * 10) = mul-le-mul_left p (omega arith) in
    let left : (v * 10 + e + 1) * p ≡ p * (v * 10 + e + 1) = mul_comm (v * 10 + e + 1) p in
    let right : p * ((v + 1) * 10) ≡ (v + 1) * (10 * p) = mul_comm p ((v + 1) * 10) ∙ mul_assoc (v + 1) 10 p in
    omega (arith, q, left, right)

none_moved : (m n v : ℕ) → m ≡ n → v * 10 ^ m + 1 ≤ (v + 1) * 10 ^ n
none_moved m n v same =
    let one : v * 10 ^ m ≡ v * 10 ^ n = ap (λ (k : ℕ). v * 10 ^ k) same in
    let next : v + 1 ≡ suc v = omega arith in
    let two : (v + 1) * 10 ^ n ≡ v * 10 ^ n + 10 ^ n = ap (λ (k : ℕ). k * 10 ^ n) next ∙ suc-mul v (10 ^ n) in
    omega (arith, pos_pow n, one, two)

-- digits, moved to so many places
moved_below : (ds : List ℕ) (n v : ℕ) → length ds ≤ n → AllPass is_ascii_digit ds → digits_from v ds * 10 ^ (n - length ds) + 1 ≤ (v + 1) * 10 ^ n
moved_below [] n v h all = none_moved (n - 0) n v (omega arith)
moved_below (d ∷ ds) zero v h all = absurd (omega arith)
moved_below (d ∷ ds) (suc m) v h all =
    let first = All-head (λ b. is_ascii_digit b ≡ true) d ds all in
    let below = moved_below ds m (v * 10 + (d - 48)) (omega arith) (All-tail (λ b. is_ascii_digit b ≡ true) d ds all) in
    let step = one_more v (d - 48) (10 ^ m) (digit_most d first) in
    let power = pow-suc' 10 m in
    let places : suc m - length (d ∷ ds) ≡ m - length ds = omega arith in
    rw (places, power) (omega (arith, below, step))

below_one : (ds : List ℕ) → length ds ≤ 9 → AllPass is_ascii_digit ds → digits_from 0 ds ≤ 10 ^ 9
below_one ds few all =
    let below = moved_below ds 9 0 few all in
    let more : digits_from 0 ds * 1 ≤ digits_from 0 ds * 10 ^ (9 - length ds) = mul-le-mul_left (digits_from 0 ds) (pos_pow (9 - length ds)) in
    omega (arith, below, more)

not_none : (ds : List ℕ) (limit : ℕ) → digits_from 0 ds ≤ limit → at_most limit ds ≡ None → ⊥
not_none ds limit h none = let e = le-leb (digits_from 0 ds) limit h in let bad = rw e at none in cc (bad)

-- decimals are always less than 1
pub decimals_there : (ds : List ℕ) → are_decimals ds ≡ true → at_most (10 ^ 9) ds ≡ None → ⊥
decimals_there ds h none =
    let a = and_parts (nat_le 1 (length ds)) (nat_le (length ds) 9 && list_all is_ascii_digit ds) h in
    let b = and_parts (nat_le (length ds) 9) (list_all is_ascii_digit ds) a.1 in
    not_none ds (10 ^ 9) (below_one ds (leb-true (length ds) 9 b.0) (AllPass-from_list_all is_ascii_digit ds b.1)) none
