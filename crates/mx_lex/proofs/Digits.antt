-- Digits, and the numbers that they spell.
use Rattle.std.proofs.Common.{◌≡◌, ℕ, ◌+◌, ◌*◌, ◌-◌, ◌/◌, ◌<◌, ◌≤◌, List, [], ◌∷◌, Bool, true, false, leb, length, get_or, take, drop, refl, ap, ◌∙◌, get_or-take, drop-cons, add-one, arith}
use Rattle.std.specs.List.{prefix_len, AllPass}
use Rattle.std.proofs.lemmas.Bool.Decides.{nat_tests}
use Rattle.std.proofs.lemmas.List.Elements.{All-from_get_or}
use Rattle.std.proofs.lemmas.List.Folds.{length-prefix_len}
use Rattle.std.proofs.lemmas.List.Sums.{prefix_len_passes}
use Rattle.mx_lex.specs.Spans.{digits_from}

-- they spell no less than what stood before them
pub digits_from_grows : (digits : List ℕ) (value : ℕ) → value ≤ digits_from value digits
digits_from_grows [] value = omega arith
digits_from_grows (d ∷ ds) value = omega (arith, digits_from_grows ds (value * 10 + (d - 48)))

-- one digit more
pub digits_from_more : (digits : List ℕ) (i value : ℕ) → i < length digits → digits_from value (drop i digits) ≡ digits_from (value * 10 + (get_or digits i 0 - 48)) (drop (i + 1) digits)
digits_from_more digits i value h = rw (add-one, drop-cons digits i 0) refl

-- where one digit more is past a limit, all digits are
pub past_limit : (digits : List ℕ) (i value limit : ℕ) → i < length digits → (limit - (get_or digits i 0 - 48)) / 10 < value → limit < digits_from value (drop i digits)
past_limit digits i value limit h past =
    let more = digits_from_more digits i value h in
    omega (arith, digits_from_grows (drop (i + 1) digits) (value * 10 + (get_or digits i 0 - 48)))

pub not_at_most : (n limit : ℕ) → limit < n → false ≡ leb n limit
not_at_most n limit h = grind (arith, nat_tests)

-- the front that passes passes
pub front_passes : (p : ℕ → Bool) (rest : List ℕ) → AllPass p (take (prefix_len p rest) rest)
front_passes p rest =
    let n = prefix_len p rest in
    All-from_get_or (λ b. p b ≡ true) (take n rest) 0
    (λ i lt. let below : i < n = omega (arith, length-prefix_len p rest) in ap p (get_or-take n rest i 0 below) ∙ prefix_len_passes p rest i 0 below)
