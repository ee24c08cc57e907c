-- The decimals of a number, and what they say.
use Rattle.std.proofs.Common.{◌≡◌, ℕ, ◌+◌, ◌*◌, ◌-◌, ◌/◌, ◌%◌, ◌^◌, ◌<◌, ◌≤◌, zero, suc, List, [], ◌∷◌, true, ◌==◌, ◌&&◌, nat_lt, length, refl, ap, ◌∙◌, length-append, arith}
use Rattle.std.specs.List.{list_all}
use Rattle.std.specs.Char.{is_ascii_digit}
use Rattle.std.proofs.Math.Nat.{pow-suc}
use Rattle.std.proofs.lemmas.List.Folds.{list_all-append}
use Rattle.std.proofs.lemmas.Bool.{and_parts, eqb-true}
use Rattle.mx_lex.specs.Spans.{digits_from}
use Rattle.mx_lex.proofs.Cases.{both}
use Rattle.mx_print.specs.Values.{padded, decimals}
use Rattle.mx_round_trip.proofs.Digits.{digits_from_append, is_digit}

-- at most k digits that say n, where zeros behind them make k
pub record AreDecimals (k n : ℕ) (ds : List ℕ) : Type 0 where
  pub digits : list_all is_ascii_digit ds ≡ true
  pub few : length ds ≤ k
  pub value : digits_from 0 ds * 10 ^ (k - length ds) ≡ n
  pub zeros : n ≡ 0 → list_all (λ d. d == 48) ds ≡ true

-- just k digits that say n
record ArePadded (k n : ℕ) (ds : List ℕ) : Type 0 where
  digits : list_all is_ascii_digit ds ≡ true
  long : length ds ≡ k
  value : digits_from 0 ds ≡ n
  zeros : n ≡ 0 → list_all (λ d. d == 48) ds ≡ true

below_tens : (k n : ℕ) → n < 10 ^ suc k → n / 10 < 10 ^ k
below_tens k n h = let e = pow-suc 10 k in omega arith

zero_last : (n : ℕ) → n ≡ 0 → ((48 + n % 10) == 48) ≡ true
zero_last n h = rw h refl

are_padded : (k n : ℕ) → n < 10 ^ k → ArePadded k n (padded k n)
unfolding padded
are_padded zero n h = record { digits = refl; long = refl; value = omega arith; zeros = λ _. refl }
are_padded (suc k) n h =
    let front = are_padded k (n / 10) (below_tens k n h) in
    let ds = padded k (n / 10) in
    let last = (48 + n % 10) ∷ [] in
    record {
      digits = let e = is_digit (n % 10) (omega arith) in list_all-append is_ascii_digit ds last ∙ rw (front.digits, e) refl;
      long = omega (arith, front.long, length-append ds last);
      value = digits_from_append 0 ds last ∙ ap (λ v. v * 10 + (48 + n % 10 - 48)) front.value ∙ omega arith;
      zeros = λ none. let f = front.zeros (omega arith) in let e = zero_last n none in list_all-append (λ d. d == 48) ds last ∙ rw (f, e) refl;
    }

of_padded : (k n : ℕ) (ds : List ℕ) → ArePadded k n ds → AreDecimals k n ds
of_padded k n ds h =
    let left : k - length ds ≡ 0 = omega (arith, h.long) in
    record { digits = h.digits; few = omega (arith, h.long); value = ap (λ j. digits_from 0 ds * 10 ^ j) left ∙ omega (arith, h.value); zeros = h.zeros }

-- a zero more behind
one_zero : (k n : ℕ) (ds : List ℕ) → n % 10 ≡ 0 → AreDecimals k (n / 10) ds → AreDecimals (suc k) n ds
one_zero k n ds last h =
    let left : suc k - length ds ≡ suc (k - length ds) = omega (arith, h.few) in
    let v : ℕ = digits_from 0 ds in
    let p : ℕ = 10 ^ (k - length ds) in
    let tens : v * (p * 10) ≡ v * p * 10 = grind arith in
    record {
      digits = h.digits;
      few = omega (arith, h.few);
      value = ap (λ j. v * 10 ^ j) left ∙ ap (λ m. v * m) (pow-suc 10 (k - length ds)) ∙ tens ∙ ap (λ m. m * 10) h.value ∙ omega arith;
      zeros = λ none. h.zeros (omega arith);
    }

pub are_decimals : (k n : ℕ) → n < 10 ^ k → AreDecimals k n (decimals k n)
unfolding decimals
are_decimals zero n h = record { digits = refl; few = omega arith; value = omega arith; zeros = λ _. refl }
are_decimals (suc k) n h =
    both (AreDecimals (suc k) n) (nat_lt 0 k && (n % 10 == 0)) (decimals k (n / 10)) (padded (suc k) n)
    (λ ends. one_zero k n (decimals k (n / 10)) (eqb-true (n % 10) 0 (and_parts (nat_lt 0 k) (n % 10 == 0) ends).1) (are_decimals k (n / 10) (below_tens k n h)))
    (λ _. of_padded (suc k) n (padded (suc k) n) (are_padded (suc k) n h))

pub some_decimals : (k n : ℕ) → n < 10 ^ suc k → 1 ≤ length (decimals (suc k) n)
unfolding decimals
some_decimals zero n h = both (λ (ds : List ℕ). 1 ≤ length ds) (nat_lt 0 zero && (n % 10 == 0)) (decimals zero (n / 10)) (padded 1 n) (λ ends. absurd (cc)) (λ _. omega (arith, (are_padded 1 n h).long))
some_decimals (suc k) n h =
    both (λ (ds : List ℕ). 1 ≤ length ds) (nat_lt 0 (suc k) && (n % 10 == 0)) (decimals (suc k) (n / 10)) (padded (suc (suc k)) n) (λ _. some_decimals k (n / 10) (below_tens (suc k) n h)) (λ _. omega (arith, (are_padded (suc (suc k)) n h).long))
