-- Numbers as spans.
use Rattle.std.proofs.Common.{◌≡◌, ℕ, ◌+◌, ◌≤◌, List, [], ◌∷◌, ◌++◌, Bool, true, false, ◌==◌, ◌||◌, leb, length, refl, ap, ◌∙◌, append_assoc, length-append, arith}
use Rattle.std.specs.List.{prefix_len, list_all}
use Rattle.std.specs.Char.{is_ascii_digit}
use Rattle.std.proofs.Math.Seq.{take-append_seam, drop-append_seam}
use Rattle.std.proofs.lemmas.Bool.{and_parts, le-leb}
use Rattle.std.proofs.lemmas.Bool.Decides.{nat_tests}
use Rattle.mx_lex.specs.Bytes.{continues_name, first_passes}
use Rattle.mx_lex.specs.Spans.{found, digits_from, is_whole, whole_limit, number_at, span_at}
use Rattle.mx_lex.specs.declared.TokenKind.TheVariants.{Int, Fix}
use Rattle.mx_round_trip.proofs.Spans.{prefix_of_all}
use Rattle.mx_round_trip.proofs.Digits.{digit_byte}

-- what goes on with a number
abbrev pub glues : ℕ → Bool
glues b = continues_name b || b == 46

not_digit : (b : ℕ) → glues b ≡ false → is_ascii_digit b ≡ false
not_digit b h = grind (arith, nat_tests)

not_point : (b : ℕ) → glues b ≡ false → (b == 46) ≡ false
not_point b h = grind (arith, nat_tests)

pub no_digit_first : (rest : List ℕ) → first_passes glues rest ≡ false → first_passes is_ascii_digit rest ≡ false
no_digit_first [] h = refl
no_digit_first (b ∷ bs) h = not_digit b h

no_point_first : (rest : List ℕ) → first_passes glues rest ≡ false → first_passes (λ b. b == 46) rest ≡ false
no_point_first [] h = refl
no_point_first (b ∷ bs) h = not_point b h

digits_span : (at b : ℕ) (bs behind : List ℕ) → is_ascii_digit b ≡ true → span_at at ((b ∷ bs) ++ behind) ≡ number_at at ((b ∷ bs) ++ behind)
unfolding span_at
digits_span at b bs behind h = let not_name = (digit_byte b h).name in rw (not_name, h) refl

int_at : (at : ℕ) (u rest : List ℕ) → list_all is_ascii_digit u ≡ true → is_whole u ≡ true → digits_from 0 u ≤ 9223372036854775808 → first_passes glues rest ≡ false → number_at at (u ++ rest) ≡ found Int (length u)
unfolding number_at
int_at at u rest digits whole bound stops =
    let len : prefix_len is_ascii_digit (u ++ rest) ≡ length u = prefix_of_all is_ascii_digit u rest digits (no_digit_first rest stops) in
    let point : first_passes (λ c. c == 46) rest ≡ false = no_point_first rest stops in
    let most : leb (digits_from 0 u) 9223372036854775808 ≡ true = le-leb (digits_from 0 u) 9223372036854775808 bound in
    rw (len, drop-append_seam u rest, take-append_seam u rest, point, whole, most, stops) refl

pub int_span : (at b : ℕ) (bs rest : List ℕ) → list_all is_ascii_digit (b ∷ bs) ≡ true → is_whole (b ∷ bs) ≡ true → digits_from 0 (b ∷ bs) ≤ 9223372036854775808 → first_passes glues rest ≡ false
    → span_at at ((b ∷ bs) ++ rest) ≡ found Int (length (b ∷ bs))
int_span at b bs rest digits whole bound stops =
    digits_span at b bs rest (and_parts (is_ascii_digit b) (list_all is_ascii_digit bs) digits).0 ∙ int_at at (b ∷ bs) rest digits whole bound stops

fix_at : (at : ℕ) (u ds rest : List ℕ) → list_all is_ascii_digit u ≡ true → is_whole u ≡ true → digits_from 0 u ≤ whole_limit ds → list_all is_ascii_digit ds ≡ true → 1 ≤ length ds → length ds ≤ 9 → first_passes glues rest ≡ false
    → number_at at (u ++ 46 ∷ (ds ++ rest)) ≡ found Fix (length u + 1 + length ds)
unfolding number_at
fix_at at u ds rest digits whole bound decimals some few stops =
    let len : prefix_len is_ascii_digit (u ++ 46 ∷ (ds ++ rest)) ≡ length u = prefix_of_all is_ascii_digit u (46 ∷ (ds ++ rest)) digits refl in
    let after : prefix_len is_ascii_digit (ds ++ rest) ≡ length ds = prefix_of_all is_ascii_digit ds rest decimals (no_digit_first rest stops) in
    let one : leb 1 (length ds) ≡ true = le-leb 1 (length ds) some in
    let nine : leb (length ds) 9 ≡ true = le-leb (length ds) 9 few in
    let most : leb (digits_from 0 u) (whole_limit ds) ≡ true = le-leb (digits_from 0 u) (whole_limit ds) bound in
    rw (len, drop-append_seam u (46 ∷ (ds ++ rest)), take-append_seam u (46 ∷ (ds ++ rest)), after, take-append_seam ds rest, drop-append_seam ds rest, whole, one, nine, most, stops) refl

-- a point and decimals behind the digits
pub fix_span : (at b : ℕ) (bs ds rest : List ℕ) → list_all is_ascii_digit (b ∷ bs) ≡ true → is_whole (b ∷ bs) ≡ true → digits_from 0 (b ∷ bs) ≤ whole_limit ds → list_all is_ascii_digit ds ≡ true → 1 ≤ length ds → length ds ≤ 9
    → first_passes glues rest ≡ false → span_at at (((b ∷ bs) ++ 46 ∷ ds) ++ rest) ≡ found Fix (length ((b ∷ bs) ++ 46 ∷ ds))
fix_span at b bs ds rest digits whole bound decimals some few stops =
    let u : List ℕ = b ∷ bs in
    let same : (u ++ 46 ∷ ds) ++ rest ≡ u ++ 46 ∷ (ds ++ rest) = append_assoc u (46 ∷ ds) rest in
    let long : length u + 1 + length ds ≡ length (u ++ 46 ∷ ds) = omega (arith, length-append u (46 ∷ ds)) in
    ap (span_at at) same
    ∙ digits_span at b bs (46 ∷ (ds ++ rest)) (and_parts (is_ascii_digit b) (list_all is_ascii_digit bs) digits).0
    ∙ fix_at at u ds rest digits whole bound decimals some few stops
    ∙ ap (found Fix) long
