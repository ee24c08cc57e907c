-- The bytes of labels and names.
use Rattle.std.proofs.Common.{◌≡◌, ℕ, suc, ◌-◌, ◌≤◌, Bool, true, cond, ltb, ◌&&◌, None, Some, List, [], ◌∷◌, All, length, get_or, drop, take, not, ap, sym, ◌∙◌, arith}
use Rattle.std.proofs.lemmas.List.{take_all}
use Rattle.std.proofs.lemmas.List.Sums.{prefix_len_passes, prefix_len-le-length}
use Rattle.std.proofs.lemmas.Bool.Decides.{nat_tests}
use Rattle.std.specs.List.{list_all, prefix_len}
use Rattle.mx_value.specs.Label.{IsPrintable, is_printable, first_unprintable}
use Rattle.mx_value.specs.Name.{is_spelled, is_name_byte}
use Rattle.std.specs.Char.{is_ascii_alphabetic}

whole_prefix : (p : ℕ → Bool) (xs : List ℕ) → cond (ltb (prefix_len p xs) (length xs)) (Some (prefix_len p xs)) None ≡ None → prefix_len p xs ≡ length xs
whole_prefix p xs e = let le = prefix_len-le-length p xs in grind (arith, nat_tests, e, le)

pub printable_from_none : (bytes : List ℕ) → first_unprintable bytes ≡ None → All IsPrintable bytes
printable_from_none bytes e k d h =
    let p : ℕ → Bool = λ b. not (not (is_printable b)) in
    let whole = whole_prefix p bytes e in
    let passes : not (not (is_printable (get_or bytes k d))) ≡ true = prefix_len_passes p bytes k d (omega arith) in
    grind (arith, nat_tests, passes)

pub spelled_is : (bytes : List ℕ) → 1 ≤ length bytes → is_ascii_alphabetic (get_or bytes 0 0) ≡ true → list_all is_name_byte (take (length bytes - 1) (drop 1 bytes)) ≡ is_spelled bytes
spelled_is [] h a = absurd (omega arith)
spelled_is (b ∷ bs) h a =
    let e : take (suc (length bs) - 1) bs ≡ bs = take_all _ bs (omega arith) in
    ap (list_all is_name_byte) e ∙ sym (ap (λ t. t && list_all is_name_byte bs) a)
