-- Each name, number, text and mark is the longest that stands where it does.
use Rattle.std.proofs.Common.{◌≡◌, ℕ, ◌+◌, ◌-◌, suc, List, [], ◌∷◌, ◌++◌, Bool, true, false, ◌==◌, not, ◌&&◌, length, take, drop, refl, ap, ◌∙◌, subst, Result, Ok, Err, inl, inr, arith}
use Rattle.std.specs.Prelude.{IfOk}
use Rattle.std.specs.List.{prefix_len, AllPass}
use Rattle.std.specs.Char.{is_ascii_digit}
use Rattle.std.proofs.lemmas.List.{drop-drop}
use Rattle.std.proofs.Math.Seq.{take-add}
use Rattle.std.proofs.lemmas.Bool.{false≢true, and_parts, not-true, not-false, eqb-true, eqb-false}
use Rattle.std.proofs.lemmas.List.Elements.{All-nil, All-cons}
use Rattle.mx_lex.specs.Bytes.{begins_name, continues_name, is_printable, is_quote, is_escaped, first_passes}
use Rattle.mx_lex.specs.Spans.{Found, found, is_keyword, name_at, is_glued, is_int, is_fix, number_at, text_end, text_until, text_at, long_marks, short_marks, begins_with_one, mark_at, span_at}
use Rattle.mx_lex.specs.declared.TokenKind.TheVariants.{Name, Keyword, Int, Fix, Mark}
use Rattle.mx_lex.specs.declared.LexRefusal.{LexRefusal}
use Rattle.mx_lex.specs.declared.LexRefusal.TheVariants.{BadByte, BadNumber}
use Rattle.mx_lex.specs.declared.spans.Span.{Span}
use Rattle.mx_lex.proofs.Cases.{both}
use Rattle.mx_lex.proofs.Digits.{front_passes}
use Rattle.mx_lex.proofs.SpanBounds.{EndsWithin, text_end_within}
use Rattle.mx_token_laws.specs.Standing.{BeginsMark, Begins, IsWord, IsQuoted, Reaches}
use Rattle.mx_token_laws.proofs.Gaps.{front_stops}

-- what begins a token, and how far it reaches
pub record Stands (bytes : List ℕ) (span : Span) : Type 0 where
  pub begins : Begins span.kind bytes
  pub reaches : Reaches span.kind span.len bytes

abbrev FoundStands : List ℕ → Found → Type 0
FoundStands bytes outcome = IfOk outcome (λ span. Stands bytes span)

name_stands : (bytes : List ℕ) → first_passes begins_name bytes ≡ true → FoundStands bytes (name_at bytes)
unfolding name_at
name_stands bytes h =
    let len = prefix_len continues_name bytes in
    let word : IsWord len bytes = record { continues = front_passes continues_name bytes; stops = front_stops continues_name bytes } in
    both (λ kind. Stands bytes (record { kind = kind; len = len })) (is_keyword (take len bytes)) Keyword Name (λ _. record { begins = h; reaches = word }) (λ _. record { begins = h; reaches = word })

-- a point and decimals behind the whole part
with_point : (whole decimals : ℕ) (bytes : List ℕ) → first_passes (λ b. b == 46) (drop whole bytes) ≡ true → take (whole + 1 + decimals) bytes ≡ take whole bytes ++ 46 ∷ take decimals (drop 1 (drop whole bytes))
with_point whole decimals bytes point =
    let regroup : whole + 1 + decimals ≡ whole + suc decimals = omega arith in
    ap (λ n. take n bytes) regroup ∙ take-add whole (suc decimals) bytes ∙ ap (λ l. take whole bytes ++ l) (from_point (drop whole bytes) point)
  where
    from_point : (behind : List ℕ) → first_passes (λ b. b == 46) behind ≡ true → take (suc decimals) behind ≡ 46 ∷ take decimals (drop 1 behind)
    from_point [] h = absurd (false≢true h)
    from_point (b ∷ bs) h = ap (λ c. c ∷ take decimals bs) (eqb-true b 46 h)

number_stands : (at : ℕ) (bytes : List ℕ) → first_passes is_ascii_digit bytes ≡ true → FoundStands bytes (number_at at bytes)
unfolding number_at
number_stands at bytes h =
    let whole = prefix_len is_ascii_digit bytes in
    let behind = drop whole bytes in
    let after = drop 1 behind in
    let decimals = prefix_len is_ascii_digit after in
    let far : drop decimals after ≡ drop (whole + 1 + decimals) bytes = ap (drop decimals) (drop-drop 1 whole bytes) ∙ drop-drop decimals (whole + 1) bytes in
    both (FoundStands bytes) (first_passes (λ b. b == 46) behind) _ _
    (λ point. both (FoundStands bytes) (is_fix (take whole bytes) (take decimals after) (drop decimals after)) (found Fix (whole + 1 + decimals)) (Err (BadNumber at))
    (λ is. record {
      begins = h;
      reaches = record {
        digits = take whole bytes;
        decimals = take decimals after;
        parts = with_point whole decimals bytes point;
        are_digits = front_passes is_ascii_digit bytes;
        are_decimals = front_passes is_ascii_digit after;
        stops = subst (λ l. is_fix (take whole bytes) (take decimals after) l ≡ true) far is;
      };
    }) (λ _. tt))
    (λ _. both (FoundStands bytes) (is_int (take whole bytes) behind) (found Int whole) (Err (BadNumber at))
    (λ is. record { begins = h; reaches = record { are_digits = front_passes is_ascii_digit bytes; stops = not-true (is_glued behind) (and_parts _ (not (is_glued behind)) is).1 } }) (λ _. tt))

mark_stands : (at : ℕ) (bytes : List ℕ) → BeginsMark bytes → FoundStands bytes (mark_at at bytes)
unfolding mark_at
mark_stands at bytes h =
    both (FoundStands bytes) (begins_with_one long_marks bytes) (found Mark 2) _ (λ is. record { begins = h; reaches = inl (refl, is) })
    (λ no. both (FoundStands bytes) (begins_with_one short_marks bytes) (found Mark 1) (Err (BadByte at)) (λ is. record { begins = h; reaches = inr (refl, no, is) }) (λ _. tt))

-- the bytes of a text behind its opening quote
record Closes (quote : ℕ) (escaped : Bool) (bytes : List ℕ) : Type 0 where
  inner : List ℕ
  parts : bytes ≡ inner ++ quote ∷ []
  printable : AllPass is_printable inner
  quoted : IsQuoted quote escaped inner

abbrev ClosesAt : ℕ → Bool → ℕ → List ℕ → Result ℕ LexRefusal → Type 0
ClosesAt quote escaped place bytes outcome = IfOk outcome (λ past. Closes quote escaped (take (past - place) bytes))

take_one_more : (n m b : ℕ) (bs : List ℕ) → n ≡ suc m → take n (b ∷ bs) ≡ b ∷ take m bs
take_one_more n m b bs e = ap (λ k. take k (b ∷ bs)) e

closes_later : (b quote place : ℕ) (escaped next : Bool) (bs : List ℕ) (outcome : Result ℕ LexRefusal) → is_printable b ≡ true → ((inner : List ℕ) → IsQuoted quote next inner → IsQuoted quote escaped (b ∷ inner)) → EndsWithin (place + 1) (length bs) outcome → ClosesAt quote next (place + 1) bs outcome → ClosesAt quote escaped place (b ∷ bs) outcome
closes_later b quote place escaped next bs (Ok past) printable more within closes =
    record {
      inner = b ∷ closes.inner;
      parts = take_one_more (past - place) (past - (place + 1)) b bs (omega (arith, within.0)) ∙ ap (λ l. b ∷ l) closes.parts;
      printable = All-cons (λ c. is_printable c ≡ true) b closes.inner printable closes.printable;
      quoted = more closes.inner closes.quoted;
    }
closes_later b quote place escaped next bs (Err e) printable more within closes = tt

text_end_closes : (start quote : ℕ) (escaped : Bool) (place : ℕ) (bytes : List ℕ) → ClosesAt quote escaped place bytes (text_end start quote escaped place bytes)
text_end_closes start quote escaped place [] = tt
text_end_closes start quote true place (b ∷ bs) =
    let P : Result ℕ LexRefusal → Type 0 = ClosesAt quote true place (b ∷ bs) in
    both P (b == 10) _ _ (λ _. tt)
    (λ _. both P (not (is_printable b)) _ _ (λ _. tt)
    (λ bad. let printable : is_printable b ≡ true = not-false (is_printable b) bad in
    both P (is_escaped b) _ _
    (λ is. closes_later b quote place true false bs (text_end start quote false (place + 1) bs) printable (λ inner q. (is, q)) (text_end_within start quote false (place + 1) bs) (text_end_closes start quote false (place + 1) bs))
    (λ _. tt)))
text_end_closes start quote false place (b ∷ bs) =
    let P : Result ℕ LexRefusal → Type 0 = ClosesAt quote false place (b ∷ bs) in
    both P (b == 10) _ _ (λ _. tt)
    (λ _. both P (not (is_printable b)) _ _ (λ _. tt)
    (λ bad. let printable : is_printable b ≡ true = not-false (is_printable b) bad in
    both P (b == 92) _ _
    (λ is. closes_later b quote place false true bs (text_end start quote true (place + 1) bs) printable (λ inner q. inl (eqb-true b 92 is, q)) (text_end_within start quote true (place + 1) bs) (text_end_closes start quote true (place + 1) bs))
    (λ other. both P (b == quote) _ _
    (λ same. record { inner = []; parts = take_one_more (place + 1 - place) 0 b bs (omega arith) ∙ ap (λ c. c ∷ []) (eqb-true b quote same); printable = All-nil (λ c. is_printable c ≡ true); quoted = refl })
    (λ differs. closes_later b quote place false false bs (text_end start quote false (place + 1) bs) printable (λ inner q. inr (eqb-false b 92 other, eqb-false b quote differs, q)) (text_end_within start quote false (place + 1) bs) (text_end_closes start quote false (place + 1) bs)))))

text_until_stands : (at quote : ℕ) (bs : List ℕ) (outcome : Result ℕ LexRefusal) → is_quote quote ≡ true → EndsWithin (at + 1) (length bs) outcome → ClosesAt quote false (at + 1) bs outcome → FoundStands (quote ∷ bs) (text_until at outcome)
text_until_stands at quote bs (Ok past) h within closes =
    record { begins = h; reaches = record { quote = quote; inner = closes.inner; parts = take_one_more (past - at) (past - (at + 1)) quote bs (omega (arith, within.0)) ∙ ap (λ l. quote ∷ l) closes.parts; printable = closes.printable; quoted = closes.quoted } }
text_until_stands at quote bs (Err e) h within closes = tt

text_stands : (at : ℕ) (bytes : List ℕ) → first_passes is_quote bytes ≡ true → FoundStands bytes (text_at at bytes)
text_stands at [] h = tt
text_stands at (quote ∷ bs) h = text_until_stands at quote bs (text_end at quote false (at + 1) bs) h (text_end_within at quote false (at + 1) bs) (text_end_closes at quote false (at + 1) bs)

span_stands : (at : ℕ) (bytes : List ℕ) → FoundStands bytes (span_at at bytes)
unfolding span_at
span_stands at bytes =
    both (FoundStands bytes) (first_passes begins_name bytes) (name_at bytes) _ (λ h. name_stands bytes h)
    (λ no_name. both (FoundStands bytes) (first_passes is_ascii_digit bytes) (number_at at bytes) _ (λ h. number_stands at bytes h)
    (λ no_digit. both (FoundStands bytes) (first_passes (λ b. b == 46) bytes && first_passes is_ascii_digit (drop 1 bytes)) (Err (BadNumber at)) _ (λ _. tt)
    (λ no_fraction. both (FoundStands bytes) (first_passes is_quote bytes) (text_at at bytes) (mark_at at bytes) (λ h. text_stands at bytes h)
    (λ no_quote. mark_stands at bytes (record { no_name = no_name; no_digit = no_digit; no_fraction = no_fraction; no_quote = no_quote })))))

pub span_is_standing : (at : ℕ) (bytes : List ℕ) (span : Span) → span_at at bytes ≡ Ok span → Stands bytes span
span_is_standing at bytes span e = subst (FoundStands bytes) e (span_stands at bytes)
