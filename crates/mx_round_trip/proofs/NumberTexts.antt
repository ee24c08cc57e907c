-- The texts of whole and of decimal numbers.
use Rattle.std.proofs.Common.{◌≡◌, ℕ, ◌+◌, ◌*◌, ◌-◌, ◌/◌, ◌%◌, ◌^◌, ◌≤◌, zero, suc, List, [], ◌∷◌, ◌++◌, true, false, ◌==◌, length, take, drop, refl, sym, ap, ◌∙◌, subst, pos, arith}
use Rattle.std.specs.List.{prefix_len, list_all}
use Rattle.std.specs.Char.{is_ascii_digit}
use Rattle.std.specs.Fmt.{decimal}
use Rattle.std.proofs.Math.Seq.{take-append_seam, drop-append_seam}
use Rattle.std.proofs.lemmas.Bool.{and_parts}
use Rattle.mx_lex.specs.Bytes.{first_passes}
use Rattle.mx_lex.specs.Spans.{digits_from, whole_limit}
use Rattle.mx_lex.specs.Heads.{brackets_behind}
use Rattle.mx_lex.specs.declared.TokenKind.TheVariants as kind
use Rattle.mx_lex.proofs.Cases.{both}
use Rattle.mx_print.specs.Values.{decimals}
use Rattle.mx_grammar.specs.Words.{word_by, fix_of, whole_of, decimals_of}
use Rattle.mx_grammar.specs.declared.word.Word.TheVariants as word
use Rattle.mx_round_trip.proofs.Goes.{Reads}
use Rattle.mx_round_trip.proofs.Pieces.{inside, reads_token}
use Rattle.mx_round_trip.proofs.Spans.{prefix_of_all, is_equals}
use Rattle.mx_round_trip.proofs.Digits.{IsDecimal, decimal_is, decimal_whole, digit_byte}
use Rattle.mx_round_trip.proofs.Numbers.{glues, int_span, fix_span}
use Rattle.mx_round_trip.proofs.Decimals.{AreDecimals, are_decimals, some_decimals}
use Rattle.mx_round_trip.proofs.Plain.{plain_both, digits_plain}
use Rattle.mx_round_trip.proofs.Flat.{Flat}
use Rattle.mx_round_trip.proofs.Printed.{starts}

-- a byte of a bracket changes the count, and no digit is one
digit_count : (b count : ℕ) → is_ascii_digit b ≡ true → brackets_behind b count ≡ count
digit_count b count h = let d = digit_byte b h in rw (d.opens, d.closes) refl

flat_int_by : (n : ℕ) (ds : List ℕ) → n ≤ 9223372036854775808 → IsDecimal n ds → Flat glues ds (word.Int n ∷ [])
flat_int_by n [] most h = absurd (let some = h.some in omega arith)
flat_int_by n (b ∷ bs) most h =
    let digit = (and_parts (is_ascii_digit b) (list_all is_ascii_digit bs) h.digits).0 in
    let bound : digits_from 0 (b ∷ bs) ≤ 9223372036854775808 = subst (λ m. m ≤ 9223372036854775808) (sym h.value) most in
    record {
      reads = λ number brackets stack.
          subst (λ m. Reads glues (inside number brackets stack) (b ∷ bs) (word.Int m ∷ []) (inside number brackets stack)) h.value
          (subst (λ m. Reads glues (inside number brackets stack) (b ∷ bs) (word_by kind.Int (b ∷ bs) ∷ []) (inside number m stack)) (digit_count b brackets digit)
          (reads_token glues kind.Int b bs number brackets stack (digit_byte b digit).begins (λ at rest stops. int_span at b bs rest h.digits (decimal_whole n (b ∷ bs) h) bound stops)));
      plain = digits_plain (b ∷ bs) h.digits;
    }

pub flat_int : (n : ℕ) → n ≤ 9223372036854775808 → Flat glues (decimal n) (word.Int n ∷ [])
flat_int n h = flat_int_by n (decimal n) h (decimal_is n (omega arith))

-- the number that digits, a point and decimals say
fix_says : (ws ds : List ℕ) → list_all is_ascii_digit ws ≡ true → fix_of (ws ++ 46 ∷ ds) ≡ digits_from 0 ws * 10 ^ 9 + digits_from 0 ds * 10 ^ (9 - length ds)
fix_says ws ds digits =
    let text : List ℕ = ws ++ 46 ∷ ds in
    let len : prefix_len is_ascii_digit text ≡ length ws = prefix_of_all is_ascii_digit ws (46 ∷ ds) digits refl in
    let front : whole_of text ≡ ws = ap (λ n. take n text) len ∙ take-append_seam ws (46 ∷ ds) in
    let back : decimals_of text ≡ ds = ap (λ n. drop 1 (drop n text)) len ∙ ap (drop 1) (drop-append_seam ws (46 ∷ ds)) in
    ap (λ l. digits_from 0 l * 10 ^ 9 + digits_from 0 (decimals_of text) * 10 ^ (9 - length (decimals_of text))) front
    ∙ ap (λ l. digits_from 0 ws * 10 ^ 9 + digits_from 0 l * 10 ^ (9 - length l)) back

-- the whole part is within its limit
limit_holds : (m : ℕ) (ds : List ℕ) → m ≤ 10 ^ 19 → AreDecimals 9 (m % 10 ^ 9) ds → m / 10 ^ 9 ≤ whole_limit ds
limit_holds m ds h d =
    both (λ limit. m / 10 ^ 9 ≤ limit) (list_all (λ c. c == 48) ds) 10000000000 9999999999
    (λ _. omega arith)
    (λ some. past (m % 10 ^ 9) refl some)
  where
    past : (f : ℕ) → m % 10 ^ 9 ≡ f → list_all (λ c. c == 48) ds ≡ false → m / 10 ^ 9 ≤ 9999999999
    past zero e some = let zeros = d.zeros e in absurd cc
    past (suc f) e some = omega arith

flat_fix_by : (m : ℕ) (ws ds : List ℕ) → m ≤ 10 ^ 19 → IsDecimal (m / 10 ^ 9) ws → AreDecimals 9 (m % 10 ^ 9) ds → 1 ≤ length ds → Flat glues (ws ++ 46 ∷ ds) (word.Fix (pos m) ∷ [])
flat_fix_by m [] ds most w d some = absurd (let none = w.some in omega arith)
flat_fix_by m (b ∷ bs) ds most w d some =
    let digit = (and_parts (is_ascii_digit b) (list_all is_ascii_digit bs) w.digits).0 in
    let u : List ℕ = (b ∷ bs) ++ 46 ∷ ds in
    let bound : digits_from 0 (b ∷ bs) ≤ whole_limit ds = subst (λ n. n ≤ whole_limit ds) (sym w.value) (limit_holds m ds most d) in
    let says : fix_of u ≡ m = fix_says (b ∷ bs) ds w.digits ∙ ap (λ n. n * 10 ^ 9 + digits_from 0 ds * 10 ^ (9 - length ds)) w.value ∙ ap (λ n. m / 10 ^ 9 * 10 ^ 9 + n) d.value ∙ omega arith in
    record {
      reads = λ number brackets stack.
          subst (λ n. Reads glues (inside number brackets stack) u (word.Fix (pos n) ∷ []) (inside number brackets stack)) says
          (subst (λ n. Reads glues (inside number brackets stack) u (word_by kind.Fix u ∷ []) (inside number n stack)) (digit_count b brackets digit)
          (reads_token glues kind.Fix b (bs ++ 46 ∷ ds) number brackets stack (digit_byte b digit).begins (λ at rest stops. fix_span at b bs ds rest w.digits (decimal_whole (m / 10 ^ 9) (b ∷ bs) w) bound d.digits some d.few stops)));
      plain = plain_both (b ∷ bs) (46 ∷ ds) (digits_plain (b ∷ bs) w.digits) (digits_plain ds d.digits);
    }

pub flat_fix : (m : ℕ) → m ≤ 10 ^ 19 → Flat glues (decimal (m / 10 ^ 9) ++ 46 ∷ decimals 9 (m % 10 ^ 9)) (word.Fix (pos m) ∷ [])
flat_fix m h = flat_fix_by m (decimal (m / 10 ^ 9)) (decimals 9 (m % 10 ^ 9)) h (decimal_is (m / 10 ^ 9) (omega arith)) (are_decimals 9 (m % 10 ^ 9) (omega arith)) (some_decimals 8 (m % 10 ^ 9) (omega arith))

-- ---- how they begin

begins_by : (n : ℕ) (ds behind : List ℕ) → IsDecimal n ds → (first_passes starts (ds ++ behind) ≡ true) × (first_passes is_equals (ds ++ behind) ≡ false)
begins_by n [] behind h = absurd (let some = h.some in omega arith)
begins_by n (b ∷ bs) behind h =
    let d = digit_byte b (and_parts (is_ascii_digit b) (list_all is_ascii_digit bs) h.digits).0 in
    (rw (d.begins.space, d.begins.line_end, d.begins.comment) refl, d.equals)

pub decimal_begins : (n : ℕ) (behind : List ℕ) → n ≤ 9223372036854775808 → (first_passes starts (decimal n ++ behind) ≡ true) × (first_passes is_equals (decimal n ++ behind) ≡ false)
decimal_begins n behind h = begins_by n (decimal n) behind (decimal_is n (omega arith))
