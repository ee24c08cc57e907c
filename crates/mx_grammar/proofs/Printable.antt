-- Bytes of which a label can be made.
use Rattle.std.proofs.Common.{◌≡◌, ℕ, Bool, true, false, cond, List, [], ◌∷◌, ◌++◌, ◌+◌, ◌-◌, length, take, drop, subst, get_or, Option, Some, None, Result, Ok, Err, sym, ap, ◌∙◌, refl, arith}
use Rattle.std.specs.Prelude.{MatchOption, IsErrOf, IsOkUnless, not}
use Rattle.std.specs.List.{AllPass}
use Rattle.std.proofs.lemmas.List.{length-append}
use Rattle.std.proofs.lemmas.Bool.Decides.{nat_tests}
use Rattle.std.proofs.lemmas.List.Elements.{All-nil, All-cons, All-head, All-tail, All-get_or}
use Rattle.std.proofs.lemmas.List.Quantifiers.{position-Some}
use Rattle.mx_value.specs.Label as labels
use Rattle.mx_value.specs.declared.label.LabelRefusal.{LabelRefusal}
use Rattle.mx_value.specs.declared.label.LabelRefusal.TheVariants as refusal
use Rattle.mx_lex.specs.Bytes.{continues_name, is_printable}
use Rattle.mx_lex.specs.Laws.{IsText}
use Rattle.mx_grammar.specs.Words.{unescaped, inner_of}

printable_by : (w : List ℕ) (r : Result (List ℕ) LabelRefusal) (place : ℕ) (o : Option ℕ) → labels.first_unprintable w ≡ o → AllPass is_printable w → MatchOption o (IsOkUnless r refusal.NoMemory) (λ p. IsErrOf r (refusal.NotPrintable p)) → r ≡ Err (refusal.NotPrintable place) → ⊥
printable_by w (Ok x) place o first all exact is = absurd cc
printable_by w (Err e) place None first all exact is = absurd (let same : e ≡ refusal.NotPrintable place = cc in let m : e ≡ refusal.NoMemory = exact in cc)
printable_by w (Err e) place (Some p) first all exact is =
    let h = position-Some (λ b. not (labels.is_printable b)) w p 0 first in
    let q : is_printable (get_or w p 0) ≡ true = All-get_or (λ b. is_printable b ≡ true) w p 0 h.0 all in
    absurd (grind (arith, nat_tests, h.1, q))

pub printable_label : (w : List ℕ) (r : Result (List ℕ) LabelRefusal) (place : ℕ) → AllPass is_printable w → MatchOption (labels.first_unprintable w) (IsOkUnless r refusal.NoMemory) (λ p. IsErrOf r (refusal.NotPrintable p)) → r ≡ Err (refusal.NotPrintable place) → ⊥
printable_label w r place all exact is = printable_by w r place (labels.first_unprintable w) refl all exact is

-- ---- what a name and a text are made of

abbrev Printable : List ℕ → Type 0
Printable bs = AllPass is_printable bs

pub name_printable : (bs : List ℕ) → AllPass continues_name bs → Printable bs
name_printable [] h = All-nil (λ b. is_printable b ≡ true)
name_printable (b ∷ bs) h =
    All-cons (λ c. is_printable c ≡ true) b bs (let q : continues_name b ≡ true = All-head (λ c. continues_name c ≡ true) b bs h in grind (arith, nat_tests, q)) (name_printable bs (All-tail (λ c. continues_name c ≡ true) b bs h))

by_quote : (c : Bool) (b : ℕ) (xs ys : List ℕ) → is_printable b ≡ true → Printable xs → Printable ys → Printable (cond c xs (b ∷ ys))
by_quote true b xs ys h p q = p
by_quote false b xs ys h p q = All-cons (λ c. is_printable c ≡ true) b ys h q

pub unescaped_printable : (escaped : Bool) (bs : List ℕ) → Printable bs → Printable (unescaped escaped bs)
unescaped_printable true [] h = h
unescaped_printable false [] h = h
unescaped_printable true (b ∷ bs) h = All-cons (λ c. is_printable c ≡ true) b (unescaped false bs) (All-head (λ c. is_printable c ≡ true) b bs h) (unescaped_printable false bs (All-tail (λ c. is_printable c ≡ true) b bs h))
unescaped_printable false (b ∷ bs) h =
    let rest = All-tail (λ c. is_printable c ≡ true) b bs h in
    by_quote _ b (unescaped true bs) (unescaped false bs) (All-head (λ c. is_printable c ≡ true) b bs h) (unescaped_printable true bs rest) (unescaped_printable false bs rest)

take_front : (u v : List ℕ) → take (length u) (u ++ v) ≡ u
take_front [] v = refl
take_front (x ∷ u) v = ap (λ (l : List ℕ). x ∷ l) (take_front u v)

pub text_printable : (text : List ℕ) → IsText text → Printable (inner_of text)
text_printable text h =
    let long : length text ≡ length h.inner + 2 = ap length h.parts ∙ (omega (arith, length-append h.inner (h.quote ∷ []))) in
    let few : length text - 2 ≡ length h.inner = omega (arith, long) in
    let e : inner_of text ≡ h.inner = ap (λ (n : ℕ). take n (drop 1 text)) few ∙ ap (λ (l : List ℕ). take (length h.inner) (drop 1 l)) h.parts ∙ take_front h.inner (h.quote ∷ []) in
    subst Printable (sym e) h.printable
