-- Printable bytes.
use Rattle.std.proofs.Common.{◌≡◌, ℕ, zero, suc, ◌+◌, ◌/◌, ◌%◌, ◌^◌, ◌==◌, Bool, true, false, if◌then◌else◌, ltb, not, List, [], ◌∷◌, All, length, None, ℤ, pos, negsuc, unsigned_abs, codes, subst, refl, sym, ◌∙◌, ap, arith}
use Rattle.std.proofs.lemmas.Bool.Decides.{nat_tests}
use Rattle.std.proofs.lemmas.List.Elements.{All-append, All-push}
use Rattle.std.specs.List.{prefix_len}
use Rattle.std.specs.Int.{is_negative}
use Rattle.std.specs.Fmt.{digits, digits_onto, digit_glyph, decimal, signed_decimal}
use Rattle.mx_ops.proofs.Tests.{lt-yes}
use Rattle.mx_value.specs.Label.{IsPrintable, is_printable, first_unprintable}
use Rattle.mx_print.specs.Values.{padded, decimals, fixed_text, value_text}
use Rattle.mx_value.specs.declared.value.Value.TheVariants as made
use Rattle.mx_value.specs.declared.value.Segment.TheOpen.{Value-F}
use Rattle.mx_value.specs.declared.value.Segment.TheFolds.{fold-roll-Value}

passes : (b : ℕ) → IsPrintable b → not (not (is_printable b)) ≡ true
passes b h = grind (arith, nat_tests)

head_of : (b : ℕ) (bs : List ℕ) → All IsPrintable (b ∷ bs) → IsPrintable b
head_of b bs h = h 0 0 (omega arith)

tail_of : (b : ℕ) (bs : List ℕ) → All IsPrintable (b ∷ bs) → All IsPrintable bs
tail_of b bs h = λ k d l. h (suc k) d (omega arith)

prefix : (bytes : List ℕ) → All IsPrintable bytes → prefix_len (λ b. not (not (is_printable b))) bytes ≡ length bytes
prefix [] h = refl
prefix (b ∷ bs) h = rw (passes b (head_of b bs h)) (omega (arith, prefix bs (tail_of b bs h)))

itself : (n : ℕ) → ltb n n ≡ false
itself n = grind (arith, nat_tests)

pub none-unprintable : (bytes : List ℕ) → All IsPrintable bytes → first_unprintable bytes ≡ None
none-unprintable bytes h = rw (prefix bytes h, itself (length bytes)) refl

one_more : (b : ℕ) (bs : List ℕ) → IsPrintable b → All IsPrintable bs → All IsPrintable (b ∷ bs)
one_more b bs h t zero d l = h
one_more b bs h t (suc k) d l = t k d (omega arith)

none_at_all : All IsPrintable []
none_at_all k d l = absurd (omega arith)

either : (b : Bool) (xs ys : List ℕ) → All IsPrintable xs → All IsPrintable ys → All IsPrintable (if b then xs else ys)
either true xs ys h k = h
either false xs ys h k = k

digit : (n : ℕ) → IsPrintable (digit_glyph false (n % 10))
digit n = rw (lt-yes (n % 10) 10 (omega arith)) (omega arith, omega arith)

onto : (k n : ℕ) (acc : List ℕ) → All IsPrintable acc → All IsPrintable (digits_onto k 10 false n acc)
onto zero n acc h = h
onto (suc k) n acc h =
    let more = one_more (digit_glyph false (n % 10)) acc (digit n) h in
    either (n / 10 == 0) (digit_glyph false (n % 10) ∷ acc) (digits_onto k 10 false (n / 10) (digit_glyph false (n % 10) ∷ acc)) more
    (onto k (n / 10) (digit_glyph false (n % 10) ∷ acc) more)

printable_decimal : (n : ℕ) → All IsPrintable (decimal n)
unfolding digits
printable_decimal n = onto 64 n [] none_at_all

printable-signed_decimal : (z : ℤ) → All IsPrintable (signed_decimal z)
printable-signed_decimal (pos n) = printable_decimal n
printable-signed_decimal (negsuc n) = one_more 45 (decimal (suc n)) (omega arith, omega arith) (printable_decimal (suc n))

printable_padded : (k n : ℕ) → All IsPrintable (padded k n)
unfolding padded
printable_padded zero n = none_at_all
printable_padded (suc k) n = All-push IsPrintable (padded k (n / 10)) (48 + n % 10) (printable_padded k (n / 10)) (omega arith, omega arith)

printable_decimals : (k n : ℕ) → All IsPrintable (decimals k n)
unfolding decimals
printable_decimals zero n = none_at_all
printable_decimals (suc k) n = either _ (decimals k (n / 10)) (padded (suc k) n) (printable_decimals k (n / 10)) (printable_padded (suc k) n)

printable-fixed_text : (z : ℤ) → All IsPrintable (fixed_text z)
printable-fixed_text z =
    All-append IsPrintable (if is_negative z then codes "-" else []) _ (either (is_negative z) (codes "-") [] (one_more 45 [] (omega arith, omega arith) none_at_all) none_at_all)
    (All-append IsPrintable (decimal (unsigned_abs z / 10 ^ 9)) _ (printable_decimal (unsigned_abs z / 10 ^ 9))
    (one_more 46 _ (omega arith, omega arith) (printable_decimals 9 (unsigned_abs z % 10 ^ 9))))

pub printable-Int : (n : ℤ) → All IsPrintable (value_text (made.Int n))
printable-Int n = subst (λ (text : List ℕ). All IsPrintable text) (sym (ap value_text (sym (made.rolls-Int n)) ∙ fold-roll-Value _ _ _ _ _ _ (Value-F.Int n))) (printable-signed_decimal n)

pub printable-Fix : (x : ℤ) → All IsPrintable (value_text (made.Fix x))
printable-Fix x = subst (λ (text : List ℕ). All IsPrintable text) (sym (ap value_text (sym (made.rolls-Fix x)) ∙ fold-roll-Value _ _ _ _ _ _ (Value-F.Fix x))) (printable-fixed_text x)
