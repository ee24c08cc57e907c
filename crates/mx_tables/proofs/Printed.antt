-- The text of a number says that number.
use Rattle.std.proofs.Common.{◌≡◌, ℕ, ℤ, pos, negsuc, ◌+◌, ◌*◌, ◌-◌, ◌/◌, ◌%◌, ◌^◌, ◌<◌, ◌≤◌, List, [], ◌∷◌, ◌++◌, Bool, true, false, ◌==◌, ◌||◌, ◌&&◌, nat_lt, nat_le, zero, suc, length, refl, sym, ap, ◌∙◌, append-nil, length-append, arith, Some, unsigned_abs}
use Rattle.std.specs.Prelude.{option_and_then}
use Rattle.std.specs.Int.{is_negative}
use Rattle.std.specs.List.{list_all, prefix_len}
use Rattle.std.specs.Char.{is_ascii_digit}
use Rattle.std.specs.Fmt.{decimal, signed_decimal}
use Rattle.std.proofs.Math.Nat.{pow-suc}
use Rattle.std.proofs.Math.Seq.{take-append_seam, drop-append_seam}
use Rattle.std.proofs.lemmas.Fmt.{decimal_by_steps}
use Rattle.std.proofs.lemmas.List.Folds.{list_all-append}
use Rattle.std.proofs.lemmas.Bool.{and_parts, eqb-true, le-leb, le-ltb}
use Rattle.std.proofs.lemmas.Bool.Decides.{nat_tests}
use Rattle.mx_lex.specs.Bytes.{first_passes}
use Rattle.mx_lex.specs.Spans.{digits_from, is_whole}
use Rattle.mx_lex.proofs.Cases.{both}
use Rattle.mx_print.specs.Values.{padded, decimals, fixed_text}
use Rattle.mx_value.specs.declared.value.Value.TheVariants as made
use Rattle.mx_tables.specs.Numbers.{number_of, size_of, size_behind, whole_size, decimal_size, raw_of, positive, negative}
use Rattle.mx_tables.specs.declared.number.Size.TheVariants.{Whole, Decimal}
use Rattle.mx_tables.specs.Held.{IsInt}

digits_from_append : (value : ℕ) (xs ys : List ℕ) → digits_from value (xs ++ ys) ≡ digits_from (digits_from value xs) ys
digits_from_append value [] ys = refl
digits_from_append value (x ∷ xs) ys = digits_from_append (value * 10 + (x - 48)) xs ys

first_of_append : (p : ℕ → Bool) (xs ys : List ℕ) → 0 < length xs → first_passes p (xs ++ ys) ≡ first_passes p xs
first_of_append p [] ys some = absurd (omega arith)
first_of_append p (x ∷ xs) ys some = refl

is_digit : (n : ℕ) → n < 10 → is_ascii_digit (48 + n) ≡ true
is_digit n h = grind (arith, nat_tests)

-- ---- whole numbers

-- digits that say a number as it is printed
record IsDecimal (n : ℕ) (ds : List ℕ) : Type 0 where
  digits : list_all is_ascii_digit ds ≡ true
  some : 0 < length ds
  value : digits_from 0 ds ≡ n
  short : n < 10 → length ds ≡ 1
  lead : 0 < n → first_passes (λ d. d == 48) ds ≡ false

one_digit : (n : ℕ) → n < 10 → IsDecimal n ((48 + n) ∷ [])
one_digit n h = record {
  digits = let e = is_digit n h in rw e refl;
  some = omega arith;
  value = omega arith;
  short = λ _. refl;
  lead = λ more. grind (arith, nat_tests);
}

more_digits : (n : ℕ) (ds : List ℕ) → 10 ≤ n → IsDecimal (n / 10) ds → IsDecimal n (ds ++ (48 + n % 10) ∷ [])
more_digits n ds more h = record {
  digits = let e = is_digit (n % 10) (omega arith) in list_all-append is_ascii_digit ds ((48 + n % 10) ∷ []) ∙ rw (h.digits, e) refl;
  some = omega (arith, h.some, length-append ds ((48 + n % 10) ∷ []));
  value = digits_from_append 0 ds ((48 + n % 10) ∷ []) ∙ ap (λ v. v * 10 + (48 + n % 10 - 48)) h.value ∙ omega arith;
  short = λ few. absurd (omega arith);
  lead = λ _. first_of_append (λ d. d == 48) ds ((48 + n % 10) ∷ []) h.some ∙ h.lead (omega arith);
}

decimal_is : (n : ℕ) → n < 2 ^ 64 → IsDecimal n (decimal n)
decimal_is = decimal_by_steps IsDecimal one_digit more_digits

decimal_whole : (n : ℕ) (ds : List ℕ) → IsDecimal n ds → is_whole ds ≡ true
decimal_whole zero ds h = let one = h.short (omega arith) in rw one refl
decimal_whole (suc n) ds h = let e = h.lead (omega arith) in rw e (either (length ds == 1))
  where
    either : (b : Bool) → (b || true) ≡ true
    either true = refl
    either false = refl

prefix_of_all : (p : ℕ → Bool) (xs ys : List ℕ) → list_all p xs ≡ true → first_passes p ys ≡ false → prefix_len p (xs ++ ys) ≡ length xs
prefix_of_all p [] [] h stops = refl
prefix_of_all p [] (y ∷ ys) h stops = rw stops refl
prefix_of_all p (x ∷ xs) ys h stops =
    let parts = and_parts (p x) (list_all p xs) h in
    let rest : prefix_len p (xs ++ ys) ≡ length xs = prefix_of_all p xs ys parts.1 stops in
    rw (parts.0, rest) (omega arith)

size_is : (ds rest : List ℕ) → list_all is_ascii_digit ds ≡ true → 0 < length ds → first_passes is_ascii_digit rest ≡ false → size_of (ds ++ rest) ≡ size_behind ds rest
unfolding size_of
size_is ds rest digits some stops =
    let len : prefix_len is_ascii_digit (ds ++ rest) ≡ length ds = prefix_of_all is_ascii_digit ds rest digits stops in
    let there : nat_lt 0 (length ds) ≡ true = grind (arith, nat_tests) in
    rw (len, drop-append_seam ds rest, take-append_seam ds rest, there) refl

whole_is : (n : ℕ) (ds : List ℕ) → n ≤ 2 ^ 63 → IsDecimal n ds → whole_size ds ≡ Some (Whole n)
whole_is n ds h d =
    let whole = decimal_whole n ds d in
    let value = d.value in
    let most : nat_le n (2 ^ 63) ≡ true = le-leb n (2 ^ 63) h in
    rw (whole, value, most) refl

whole_said : (n : ℕ) → n ≤ 2 ^ 63 → size_of (decimal n) ≡ Some (Whole n)
whole_said n h =
    let d = decimal_is n (omega arith) in
    ap size_of (sym (append-nil (decimal n))) ∙ size_is (decimal n) [] d.digits d.some refl ∙ whole_is n (decimal n) h d

-- ---- decimals

-- at most k digits that say n, where zeros behind them make k
record AreDecimals (k n : ℕ) (ds : List ℕ) : Type 0 where
  digits : list_all is_ascii_digit ds ≡ true
  few : length ds ≤ k
  value : digits_from 0 ds * 10 ^ (k - length ds) ≡ n

-- just k digits that say n
record ArePadded (k n : ℕ) (ds : List ℕ) : Type 0 where
  digits : list_all is_ascii_digit ds ≡ true
  long : length ds ≡ k
  value : digits_from 0 ds ≡ n

below_tens : (k n : ℕ) → n < 10 ^ suc k → n / 10 < 10 ^ k
below_tens k n h = let e = pow-suc 10 k in omega arith

are_padded : (k n : ℕ) → n < 10 ^ k → ArePadded k n (padded k n)
unfolding padded
are_padded zero n h = record { digits = refl; long = refl; value = omega arith }
are_padded (suc k) n h =
    let front = are_padded k (n / 10) (below_tens k n h) in
    let ds = padded k (n / 10) in
    let last = (48 + n % 10) ∷ [] in
    record {
      digits = let e = is_digit (n % 10) (omega arith) in list_all-append is_ascii_digit ds last ∙ rw (front.digits, e) refl;
      long = omega (arith, front.long, length-append ds last);
      value = digits_from_append 0 ds last ∙ ap (λ v. v * 10 + (48 + n % 10 - 48)) front.value ∙ omega arith;
    }

of_padded : (k n : ℕ) (ds : List ℕ) → ArePadded k n ds → AreDecimals k n ds
of_padded k n ds h =
    let left : k - length ds ≡ 0 = omega (arith, h.long) in
    record { digits = h.digits; few = omega (arith, h.long); value = ap (λ j. digits_from 0 ds * 10 ^ j) left ∙ omega (arith, h.value) }

-- a zero more behind
one_zero : (k n : ℕ) (ds : List ℕ) → n % 10 ≡ 0 → AreDecimals k (n / 10) ds → AreDecimals (suc k) n ds
one_zero k n ds last h =
    let left : suc k - length ds ≡ suc (k - length ds) = omega (arith, h.few) in
    let v : ℕ = digits_from 0 ds in
    let p : ℕ = 10 ^ (k - length ds) in
    let tens : v * (p * 10) ≡ v * p * 10 = grind arith in
    record {
      digits = h.digits;
      few = omega (arith, h.few);
      value = ap (λ j. v * 10 ^ j) left ∙ ap (λ m. v * m) (pow-suc 10 (k - length ds)) ∙ tens ∙ ap (λ m. m * 10) h.value ∙ omega arith;
    }

decimals_are : (k n : ℕ) → n < 10 ^ k → AreDecimals k n (decimals k n)
unfolding decimals
decimals_are zero n h = record { digits = refl; few = omega arith; value = omega arith }
decimals_are (suc k) n h =
    both (AreDecimals (suc k) n) (nat_lt 0 k && (n % 10 == 0)) (decimals k (n / 10)) (padded (suc k) n)
    (λ ends. one_zero k n (decimals k (n / 10)) (eqb-true (n % 10) 0 (and_parts (nat_lt 0 k) (n % 10 == 0) ends).1) (decimals_are k (n / 10) (below_tens k n h)))
    (λ _. of_padded (suc k) n (padded (suc k) n) (are_padded (suc k) n h))

some_decimals : (k n : ℕ) → n < 10 ^ suc k → 1 ≤ length (decimals (suc k) n)
unfolding decimals
some_decimals zero n h = both (λ (ds : List ℕ). 1 ≤ length ds) (nat_lt 0 zero && (n % 10 == 0)) (decimals zero (n / 10)) (padded 1 n) (λ ends. absurd (cc)) (λ _. omega (arith, (are_padded 1 n h).long))
some_decimals (suc k) n h =
    both (λ (ds : List ℕ). 1 ≤ length ds) (nat_lt 0 (suc k) && (n % 10 == 0)) (decimals (suc k) (n / 10)) (padded (suc (suc k)) n) (λ _. some_decimals k (n / 10) (below_tens (suc k) n h)) (λ _. omega (arith, (are_padded (suc (suc k)) n h).long))

decimal_size_is : (m : ℕ) (ws ds : List ℕ) → m ≤ 10 ^ 19 → IsDecimal (m / 10 ^ 9) ws → AreDecimals 9 (m % 10 ^ 9) ds → 1 ≤ length ds → decimal_size ws ds ≡ Some (Decimal m)
decimal_size_is m ws ds h w d some =
    let raw : raw_of ws ds ≡ m = ap (λ n. n * 10 ^ 9 + digits_from 0 ds * 10 ^ (9 - length ds)) w.value ∙ ap (λ n. m / 10 ^ 9 * 10 ^ 9 + n) d.value ∙ omega arith in
    let whole = decimal_whole (m / 10 ^ 9) ws w in
    let one : nat_le 1 (length ds) ≡ true = le-leb 1 (length ds) some in
    let nine : nat_le (length ds) 9 ≡ true = le-leb (length ds) 9 d.few in
    let digits = d.digits in
    let most : nat_le m (10 ^ 19) ≡ true = le-leb m (10 ^ 19) h in
    rw (whole, one, nine, digits, raw, most) refl

-- the text of a decimal number without its sign
abbrev unsigned_text : ℕ → List ℕ
unsigned_text m = decimal (m / 10 ^ 9) ++ 46 ∷ decimals 9 (m % 10 ^ 9)

decimal_said : (m : ℕ) → m ≤ 10 ^ 19 → size_of (unsigned_text m) ≡ Some (Decimal m)
decimal_said m h =
    let w = decimal_is (m / 10 ^ 9) (omega arith) in
    let ds = decimals 9 (m % 10 ^ 9) in
    size_is (decimal (m / 10 ^ 9)) (46 ∷ ds) w.digits w.some refl
    ∙ decimal_size_is m (decimal (m / 10 ^ 9)) ds h w (decimals_are 9 (m % 10 ^ 9) (omega arith)) (some_decimals 8 (m % 10 ^ 9) (omega arith))

-- ---- with their sign

not_minus : (b : ℕ) → is_ascii_digit b ≡ true → (b == 45) ≡ false
not_minus b h = grind (arith, nat_tests)

unsigned_by : (ds rest : List ℕ) → list_all is_ascii_digit ds ≡ true → 0 < length ds → number_of (ds ++ rest) ≡ option_and_then positive (size_of (ds ++ rest))
unfolding number_of
unsigned_by [] rest digits some = absurd (omega arith)
unsigned_by (b ∷ bs) rest digits some = let no = not_minus b (and_parts (is_ascii_digit b) (list_all is_ascii_digit bs) digits).0 in rw no refl

negative_by : (text : List ℕ) → number_of (45 ∷ text) ≡ option_and_then negative (size_of text)
unfolding number_of
negative_by text = refl

pub int_back : (k : ℤ) → IsInt k → number_of (signed_decimal k) ≡ Some (made.Int k)
unfolding positive negative
int_back (pos n) h =
    let d = decimal_is n (omega arith) in
    let most : nat_lt n (2 ^ 63) ≡ true = grind (arith, nat_tests) in
    ap number_of (sym (append-nil (decimal n))) ∙ unsigned_by (decimal n) [] d.digits d.some ∙ ap (λ t. option_and_then positive (size_of t)) (append-nil (decimal n))
    ∙ ap (option_and_then positive) (whole_said n (omega arith)) ∙ rw most refl
int_back (negsuc n) h =
    let most : nat_le (suc n) (2 ^ 63) ≡ true = le-leb (suc n) (2 ^ 63) (omega arith) in
    negative_by (decimal (suc n)) ∙ ap (option_and_then negative) (whole_said (suc n) (omega arith)) ∙ rw most refl

from_zero : (m : ℕ) → fixed_text (pos m) ≡ unsigned_text m
from_zero m = let e : is_negative (pos m) ≡ false = le-ltb m 0 (omega arith) in rw e refl

pub fix_back : (x : ℤ) → unsigned_abs x ≤ 10 ^ 19 → number_of (fixed_text x) ≡ Some (made.Fix x)
unfolding positive negative
fix_back (pos m) h =
    let d = decimal_is (m / 10 ^ 9) (omega arith) in
    let most : nat_le m (10 ^ 19) ≡ true = le-leb m (10 ^ 19) h in
    ap number_of (from_zero m) ∙ unsigned_by (decimal (m / 10 ^ 9)) (46 ∷ decimals 9 (m % 10 ^ 9)) d.digits d.some ∙ ap (option_and_then positive) (decimal_said m h) ∙ rw most refl
fix_back (negsuc m) h =
    let most : nat_le (suc m) (10 ^ 19) ≡ true = le-leb (suc m) (10 ^ 19) h in
    negative_by (unsigned_text (suc m)) ∙ ap (option_and_then negative) (decimal_said (suc m) h) ∙ rw most refl
