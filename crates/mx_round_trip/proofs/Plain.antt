-- Printable bytes: a text of them has no line feed.
use Rattle.std.proofs.Common.{◌≡◌, ℕ, List, [], ◌∷◌, ◌++◌, Bool, true, ◌==◌, ◌||◌, ◌&&◌, ◌≢◌, map, refl, ap, ◌∙◌, arith}
use Rattle.std.specs.Prelude.{codes}
use Rattle.std.specs.List.{concat, list_all}
use Rattle.std.specs.Char.{is_ascii_digit}
use Rattle.std.proofs.lemmas.Bool.{and_parts}
use Rattle.std.proofs.lemmas.Bool.Decides.{nat_tests}
use Rattle.std.proofs.lemmas.List.Folds.{list_all-append}
use Rattle.mx_lex.specs.Bytes.{continues_name, is_printable}
use Rattle.mx_lex.proofs.Cases.{both}
use Rattle.mx_print.specs.Texts.{Text}
use Rattle.mx_print.specs.Lines.{HasNoFeed, HaveNoFeed}
use Rattle.mx_print.specs.Values.{escaped, quoted}

-- a text, and each of these lines
abbrev pub is_plain : Text → Bool
is_plain = list_all is_printable

abbrev pub are_plain : List Text → Bool
are_plain = list_all is_plain

module _ {X : Type 0} (p : X → Bool) where
  pub all_both : (xs ys : List X) → list_all p xs ≡ true → list_all p ys ≡ true → list_all p (xs ++ ys) ≡ true
  all_both xs ys g h = list_all-append p xs ys ∙ rw (g, h) refl

  -- what passes one test passes another
  pub all_more : (q : X → Bool) → ((x : X) → p x ≡ true → q x ≡ true) → (xs : List X) → list_all p xs ≡ true → list_all q xs ≡ true
  all_more q more [] h = refl
  all_more q more (x ∷ xs) h =
      let parts = and_parts (p x) (list_all p xs) h in
      let first : q x ≡ true = more x parts.0 in
      let others : list_all q xs ≡ true = all_more q more xs parts.1 in
      rw (first, others) refl

pub plain_both : (t u : Text) → is_plain t ≡ true → is_plain u ≡ true → is_plain (t ++ u) ≡ true
plain_both t u g h = all_both is_printable t u g h

pub lines_plain_both : (ts us : List Text) → are_plain ts ≡ true → are_plain us ≡ true → are_plain (ts ++ us) ≡ true
lines_plain_both ts us g h = all_both is_plain ts us g h

pub line_plain_before : (t : Text) (ts : List Text) → is_plain t ≡ true → are_plain ts ≡ true → are_plain (t ∷ ts) ≡ true
line_plain_before t ts g h = rw (g, h) refl

name_printable : (b : ℕ) → continues_name b ≡ true → is_printable b ≡ true
name_printable b h = grind (arith, nat_tests)

pub name_plain : (t : Text) → list_all continues_name t ≡ true → is_plain t ≡ true
name_plain t h = all_more continues_name is_printable name_printable t h

digit_printable : (b : ℕ) → is_ascii_digit b ≡ true → is_printable b ≡ true
digit_printable b h = grind (arith, nat_tests)

pub digits_plain : (t : Text) → list_all is_ascii_digit t ≡ true → is_plain t ≡ true
digits_plain t h = all_more is_ascii_digit is_printable digit_printable t h

escaped_plain : (b : ℕ) → is_printable b ≡ true → is_plain (escaped b) ≡ true
escaped_plain b h = both (λ (e : Text). is_plain e ≡ true) ((b == 34) || (b == 92)) (92 ∷ b ∷ []) (b ∷ []) (λ _. rw h refl) (λ _. rw h refl)

inner_plain : (t : Text) → is_plain t ≡ true → is_plain (concat (map escaped t)) ≡ true
inner_plain [] h = refl
inner_plain (b ∷ bs) h =
    let parts = and_parts (is_printable b) (is_plain bs) h in
    plain_both (escaped b) (concat (map escaped bs)) (escaped_plain b parts.0) (inner_plain bs parts.1)

pub quoted_plain : (t : Text) → is_plain t ≡ true → is_plain (quoted t) ≡ true
quoted_plain t h = plain_both (concat (map escaped t)) (codes "\"") (inner_plain t h) refl

-- lines one level further in
pub inward_plain : (ts : List Text) → are_plain (map (λ (t : Text). codes "    " ++ t) ts) ≡ are_plain ts
inward_plain [] = refl
inward_plain (t ∷ ts) = ap (λ b. is_plain t && b) (inward_plain ts)

-- ---- no line feed

no_feed : (b : ℕ) → is_printable b ≡ true → b ≢ 10
no_feed b h = grind (arith, nat_tests)

plain_no_feed : (t : Text) → is_plain t ≡ true → HasNoFeed t
plain_no_feed [] h = tt
plain_no_feed (b ∷ bs) h = let parts = and_parts (is_printable b) (is_plain bs) h in (no_feed b parts.0, plain_no_feed bs parts.1)

pub plain_no_feeds : (ts : List Text) → are_plain ts ≡ true → HaveNoFeed ts
plain_no_feeds [] h = tt
plain_no_feeds (t ∷ ts) h = let parts = and_parts (is_plain t) (are_plain ts) h in (plain_no_feed t parts.0, plain_no_feeds ts parts.1)
