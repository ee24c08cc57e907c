-- Keywords by their lengths.
use Rattle.std.proofs.Common.{◌≡◌, ◌≢◌, ℕ, Bool, true, false, List, length, ◌==◌, ◌&&◌, sym, ap, subst, ◌∙◌, arith}
use Rattle.std.specs.Prelude.{nat_le}
use Rattle.std.specs.List.{list_any, filter}
use Rattle.std.proofs.lemmas.Slice.Eq.{bytes_eq-Decides}
use Rattle.std.proofs.lemmas.Map.Views.{any-filter_same}
use Rattle.std.proofs.lemmas.Bool.Decides.{nat_tests}
use Rattle.mx_value.specs.Name.{same_name, keywords, is_keyword}

same_length : (word keyword : List ℕ) (n : ℕ) → length word ≡ n → same_name word keyword ≡ true → (length keyword == n) ≡ true
same_length word keyword n is same = let e : length keyword ≡ n = ap length (sym ((bytes_eq-Decides word keyword).0 same)) ∙ is in grind (arith, nat_tests, e)

-- a word of this length is a keyword where it is one of the keywords of this length
pub among : (word : List ℕ) (n : ℕ) → length word ≡ n → list_any (same_name word) (filter (λ keyword. length keyword == n) keywords) ≡ is_keyword word
unfolding is_keyword
among word n is = any-filter_same (same_name word) (λ keyword. length keyword == n) true (λ keyword same. same_length word keyword n is same) keywords

-- keywords have 2 to 8 letters
abbrev short : List ℕ → Bool
short word = nat_le 2 (length word) && nat_le (length word) 8

not_short : (word keyword : List ℕ) → short word ≡ false → same_name word keyword ≡ true → short keyword ≡ false
not_short word keyword long same = subst (λ w. short w ≡ false) ((bytes_eq-Decides word keyword).0 same) long

pub no_keyword : (word : List ℕ) → length word ≢ 2 → length word ≢ 3 → length word ≢ 4 → length word ≢ 5 → length word ≢ 6 → length word ≢ 7 → length word ≢ 8 → is_keyword word ≡ false
unfolding is_keyword
no_keyword word a b c d e f g =
    let long : short word ≡ false = grind (arith, nat_tests) in
    any-filter_same (same_name word) short false (λ keyword same. not_short word keyword long same) keywords
