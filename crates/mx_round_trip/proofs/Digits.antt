-- Digits: what a decimal number is made of, and what it says.
use Rattle.std.proofs.Common.{◌≡◌, ℕ, ◌+◌, ◌*◌, ◌-◌, ◌/◌, ◌%◌, ◌^◌, ◌<◌, ◌≤◌, List, [], ◌∷◌, ◌++◌, Bool, true, false, ◌==◌, ◌||◌, zero, suc, length, refl, ap, ◌∙◌, length-append, arith}
use Rattle.std.specs.List.{list_all}
use Rattle.std.specs.Char.{is_ascii_digit}
use Rattle.std.specs.Fmt.{decimal}
use Rattle.std.proofs.lemmas.Fmt.{decimal_by_steps}
use Rattle.std.proofs.lemmas.List.Folds.{list_all-append}
use Rattle.std.proofs.lemmas.Bool.Decides.{nat_tests}
use Rattle.mx_lex.specs.Bytes.{begins_name, is_opening, is_closing, first_passes}
use Rattle.mx_lex.specs.Spans.{digits_from, is_whole}
use Rattle.mx_round_trip.proofs.Pieces.{BeginsToken}

pub digits_from_append : (value : ℕ) (xs ys : List ℕ) → digits_from value (xs ++ ys) ≡ digits_from (digits_from value xs) ys
digits_from_append value [] ys = refl
digits_from_append value (x ∷ xs) ys = digits_from_append (value * 10 + (x - 48)) xs ys

pub first_of_append : (p : ℕ → Bool) (xs ys : List ℕ) → 0 < length xs → first_passes p (xs ++ ys) ≡ first_passes p xs
first_of_append p [] ys some = absurd (omega arith)
first_of_append p (x ∷ xs) ys some = refl

pub is_digit : (n : ℕ) → n < 10 → is_ascii_digit (48 + n) ≡ true
is_digit n h = grind (arith, nat_tests)

-- digits that say a number as it is printed
pub record IsDecimal (n : ℕ) (ds : List ℕ) : Type 0 where
  pub digits : list_all is_ascii_digit ds ≡ true
  pub some : 0 < length ds
  pub value : digits_from 0 ds ≡ n
  pub short : n < 10 → length ds ≡ 1
  pub lead : 0 < n → first_passes (λ d. d == 48) ds ≡ false

one_digit : (n : ℕ) → n < 10 → IsDecimal n ((48 + n) ∷ [])
one_digit n h = record {
  digits = let e = is_digit n h in rw e refl;
  some = omega arith;
  value = omega arith;
  short = λ _. refl;
  lead = λ more. grind (arith, nat_tests);
}

more_digits : (n : ℕ) (ds : List ℕ) → 10 ≤ n → IsDecimal (n / 10) ds → IsDecimal n (ds ++ (48 + n % 10) ∷ [])
more_digits n ds more h = record {
  digits = let e = is_digit (n % 10) (omega arith) in list_all-append is_ascii_digit ds ((48 + n % 10) ∷ []) ∙ rw (h.digits, e) refl;
  some = omega (arith, h.some, length-append ds ((48 + n % 10) ∷ []));
  value = digits_from_append 0 ds ((48 + n % 10) ∷ []) ∙ ap (λ v. v * 10 + (48 + n % 10 - 48)) h.value ∙ omega arith;
  short = λ few. absurd (omega arith);
  lead = λ _. first_of_append (λ d. d == 48) ds ((48 + n % 10) ∷ []) h.some ∙ h.lead (omega arith);
}

pub decimal_is : (n : ℕ) → n < 2 ^ 64 → IsDecimal n (decimal n)
decimal_is = decimal_by_steps IsDecimal one_digit more_digits

pub decimal_whole : (n : ℕ) (ds : List ℕ) → IsDecimal n ds → is_whole ds ≡ true
decimal_whole zero ds h = let one = h.short (omega arith) in rw one refl
decimal_whole (suc n) ds h = let e = h.lead (omega arith) in rw e (either (length ds == 1))
  where
    either : (b : Bool) → (b || true) ≡ true
    either true = refl
    either false = refl

-- what a digit is not
pub record IsDigitByte (b : ℕ) : Type 0 where
  pub name : begins_name b ≡ false
  pub begins : BeginsToken b
  pub equals : (61 == b) ≡ false
  pub opens : is_opening b ≡ false
  pub closes : is_closing b ≡ false

pub digit_byte : (b : ℕ) → is_ascii_digit b ≡ true → IsDigitByte b
digit_byte b h = record {
  name = grind (arith, nat_tests);
  begins = record { space = grind (arith, nat_tests); line_end = grind (arith, nat_tests); comment = grind (arith, nat_tests) };
  equals = grind (arith, nat_tests);
  opens = grind (arith, nat_tests);
  closes = grind (arith, nat_tests);
}
