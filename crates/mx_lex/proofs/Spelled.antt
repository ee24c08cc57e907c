-- What a span that begins at the rest says of its bytes.
use Rattle.std.proofs.Common.{◌≡◌, ℕ, ◌+◌, ◌-◌, ◌<◌, zero, suc, List, [], ◌∷◌, ◌++◌, Bool, true, false, leb, ◌==◌, not, ◌&&◌, length, take, drop, ap, ◌∙◌, subst, Result, Ok, Err, arith, length-take-le}
use Rattle.std.specs.Prelude.{IfOk}
use Rattle.std.specs.List.{prefix_len, AllPass}
use Rattle.std.specs.Char.{is_ascii_digit}
use Rattle.std.proofs.Math.Seq.{take-add}
use Rattle.std.proofs.lemmas.List.Elements.{All-nil, All-cons}
use Rattle.std.proofs.lemmas.Bool.{false≢true, not-false, and_parts, leb-true, eqb-true, or_left, or_right}
use Rattle.mx_lex.specs.Bytes.{begins_name, continues_name, is_printable, is_quote, is_escaped, first_passes}
use Rattle.mx_lex.specs.Spans.{Found, found, is_keyword, name_at, digits_from, is_whole, is_glued, is_int, is_fix, whole_limit, number_at, text_end, text_until, text_at, long_marks, short_marks, begins_with_one, mark_at, span_at}
use Rattle.mx_lex.specs.Laws.{IsSpelled}
use Rattle.mx_lex.specs.declared.TokenKind.{TokenKind}
use Rattle.mx_lex.specs.declared.TokenKind.TheVariants.{Name, Keyword, Int, Fix, Text, Mark}
use Rattle.mx_lex.specs.declared.LexRefusal.{LexRefusal}
use Rattle.mx_lex.specs.declared.LexRefusal.TheVariants.{BadByte, BadNumber}
use Rattle.mx_lex.specs.declared.spans.Span.{Span}
use Rattle.mx_lex.proofs.Cases.{both}
use Rattle.mx_lex.proofs.Digits.{front_passes}
use Rattle.mx_lex.proofs.SpanBounds.{EndsWithin, front_within, first_weaker, text_end_within}

-- a kind of token that has bytes
abbrev pub IsPlain : TokenKind → Type 0
IsPlain Name = Unit {0}
IsPlain Keyword = Unit {0}
IsPlain Int = Unit {0}
IsPlain Fix = Unit {0}
IsPlain Text = Unit {0}
IsPlain Mark = Unit {0}
IsPlain _ = ⊥

pub record Spelled (rest : List ℕ) (span : Span) : Type 0 where
  pub plain : IsPlain span.kind
  pub spelled : IsSpelled span.kind (take span.len rest)

abbrev pub FoundSpelled : List ℕ → Found → Type 0
FoundSpelled rest outcome = IfOk outcome (λ span. Spelled rest span)

first_of_take : (p : ℕ → Bool) (n : ℕ) (rest : List ℕ) → 0 < n → first_passes p rest ≡ true → first_passes p (take n rest) ≡ true
first_of_take p zero rest h first = absurd (omega arith)
first_of_take p (suc n) [] h first = first
first_of_take p (suc n) (b ∷ bs) h first = first

name_spelled : (rest : List ℕ) → first_passes begins_name rest ≡ true → FoundSpelled rest (name_at rest)
unfolding name_at
name_spelled rest h =
    let len = prefix_len continues_name rest in
    let front = front_within continues_name rest (first_weaker begins_name continues_name (λ b begins. or_left (begins_name b) (is_ascii_digit b) begins) rest h) in
    both (λ kind. Spelled rest (record { kind = kind; len = len })) (is_keyword (take len rest)) Keyword Name
    (λ yes_it_is. record { plain = tt; spelled = yes_it_is })
    (λ no_it_isnt. record { plain = tt; spelled = record { begins = first_of_take begins_name len rest front.some h; continues = front_passes continues_name rest; free = no_it_isnt } })

-- a point and decimals behind the whole part
fix_parts : (whole decimals : ℕ) (rest : List ℕ) → first_passes (λ b. b == 46) (drop whole rest) ≡ true → take (whole + 1 + decimals) rest ≡ take whole rest ++ 46 ∷ take decimals (drop 1 (drop whole rest))
fix_parts whole decimals rest point =
    let regroup : whole + 1 + decimals ≡ whole + suc decimals = omega arith in
    ap (λ n. take n rest) regroup ∙ take-add whole (suc decimals) rest ∙ ap (λ l. take whole rest ++ l) (from_point (drop whole rest) point)
  where
    from_point : (behind : List ℕ) → first_passes (λ b. b == 46) behind ≡ true → take (suc decimals) behind ≡ 46 ∷ take decimals (drop 1 behind)
    from_point [] h = absurd (false≢true h)
    from_point (b ∷ bs) h = ap (λ c. c ∷ take decimals bs) (eqb-true b 46 h)

int_spelled : (rest behind : List ℕ) → first_passes is_ascii_digit rest ≡ true → is_int (take (prefix_len is_ascii_digit rest) rest) behind ≡ true → Spelled rest (record { kind = Int; len = prefix_len is_ascii_digit rest })
int_spelled rest behind h is =
    let whole = prefix_len is_ascii_digit rest in
    let digits = take whole rest in
    let front = front_within is_ascii_digit rest h in
    let outer = and_parts (is_whole digits && leb (digits_from 0 digits) 9223372036854775808) (not (is_glued behind)) is in
    let inner = and_parts (is_whole digits) (leb (digits_from 0 digits) 9223372036854775808) outer.0 in
    let long = length-take-le whole rest front.within in
    record { plain = tt; spelled = record { digits = front_passes is_ascii_digit rest; some = omega (arith, front.some); whole = inner.0; bound = leb-true (digits_from 0 digits) 9223372036854775808 inner.1 } }

fix_spelled : (rest digits decimals behind : List ℕ) (len : ℕ) → take len rest ≡ digits ++ 46 ∷ decimals → is_fix digits decimals behind ≡ true → Spelled rest (record { kind = Fix; len = len })
fix_spelled rest digits decimals behind len parts is =
    let a = and_parts (is_whole digits && leb 1 (length decimals) && leb (length decimals) 9 && leb (digits_from 0 digits) (whole_limit decimals)) (not (is_glued behind)) is in
    let b = and_parts (is_whole digits && leb 1 (length decimals) && leb (length decimals) 9) (leb (digits_from 0 digits) (whole_limit decimals)) a.0 in
    let c = and_parts (is_whole digits && leb 1 (length decimals)) (leb (length decimals) 9) b.0 in
    let d = and_parts (is_whole digits) (leb 1 (length decimals)) c.0 in
    record { plain = tt; spelled = record { digits = digits; decimals = decimals; parts = parts; whole = d.0; some = leb-true 1 (length decimals) d.1; few = leb-true (length decimals) 9 c.1; bound = leb-true (digits_from 0 digits) (whole_limit decimals) b.1 } }

number_spelled : (at : ℕ) (rest : List ℕ) → first_passes is_ascii_digit rest ≡ true → FoundSpelled rest (number_at at rest)
unfolding number_at
number_spelled at rest h =
    let whole = prefix_len is_ascii_digit rest in
    let behind = drop whole rest in
    let after = drop 1 behind in
    let decimals = prefix_len is_ascii_digit after in
    both (FoundSpelled rest) (first_passes (λ b. b == 46) behind) _ _
    (λ point. both (FoundSpelled rest) (is_fix (take whole rest) (take decimals after) (drop decimals after)) (found Fix (whole + 1 + decimals)) (Err (BadNumber at))
    (λ is. fix_spelled rest (take whole rest) (take decimals after) (drop decimals after) (whole + 1 + decimals) (fix_parts whole decimals rest point) is) (λ _. tt))
    (λ _. both (FoundSpelled rest) (is_int (take whole rest) behind) (found Int whole) (Err (BadNumber at)) (λ is. int_spelled rest behind h is) (λ _. tt))

mark_spelled : (at : ℕ) (rest : List ℕ) → FoundSpelled rest (mark_at at rest)
unfolding mark_at
mark_spelled at rest =
    both (FoundSpelled rest) (begins_with_one long_marks rest) (found Mark 2) _ (λ h. record { plain = tt; spelled = or_left _ _ h })
    (λ _. both (FoundSpelled rest) (begins_with_one short_marks rest) (found Mark 1) (Err (BadByte at)) (λ h. record { plain = tt; spelled = or_right _ _ h }) (λ _. tt))

-- the bytes of a text behind its opening quote
record TextEnds (quote : ℕ) (bytes : List ℕ) : Type 0 where
  inner : List ℕ
  parts : bytes ≡ inner ++ quote ∷ []
  printable : AllPass is_printable inner

abbrev EndsText : ℕ → ℕ → List ℕ → Result ℕ LexRefusal → Type 0
EndsText quote place bytes outcome = IfOk outcome (λ past. TextEnds quote (take (past - place) bytes))

take_one_more : (n m b : ℕ) (bs : List ℕ) → n ≡ suc m → take n (b ∷ bs) ≡ b ∷ take m bs
take_one_more n m b bs e = ap (λ k. take k (b ∷ bs)) e

ends_text_later : (b quote place : ℕ) (bs : List ℕ) (outcome : Result ℕ LexRefusal) → is_printable b ≡ true → EndsWithin (place + 1) (length bs) outcome → EndsText quote (place + 1) bs outcome → EndsText quote place (b ∷ bs) outcome
ends_text_later b quote place bs (Ok past) printable within ends =
    record {
      inner = b ∷ ends.inner;
      parts = take_one_more (past - place) (past - (place + 1)) b bs (omega (arith, within.0)) ∙ ap (λ l. b ∷ l) ends.parts;
      printable = All-cons (λ c. is_printable c ≡ true) b ends.inner printable ends.printable;
    }
ends_text_later b quote place bs (Err e) printable within ends = tt

text_end_text : (start quote : ℕ) (escaped : Bool) (place : ℕ) (bytes : List ℕ) → EndsText quote place bytes (text_end start quote escaped place bytes)
text_end_text start quote escaped place [] = tt
text_end_text start quote escaped place (b ∷ bs) =
    let P : Result ℕ LexRefusal → Type 0 = EndsText quote place (b ∷ bs) in
    let later = λ (e : Bool) (printable : is_printable b ≡ true). ends_text_later b quote place bs (text_end start quote e (place + 1) bs) printable (text_end_within start quote e (place + 1) bs) (text_end_text start quote e (place + 1) bs) in
    both P (b == 10) _ _ (λ _. tt)
    (λ _. both P (not (is_printable b)) _ _ (λ _. tt)
    (λ bad. let printable : is_printable b ≡ true = not-false (is_printable b) bad in
    both P escaped _ _
    (λ _. both P (is_escaped b) _ _ (λ _. later false printable) (λ _. tt))
    (λ _. both P (b == 92) _ _ (λ _. later true printable)
    (λ _. both P (b == quote) _ _ (λ same. record { inner = []; parts = take_one_more (place + 1 - place) 0 b bs (omega arith) ∙ ap (λ c. c ∷ []) (eqb-true b quote same); printable = All-nil (λ c. is_printable c ≡ true) })
    (λ _. later false printable)))))

text_until_spelled : (at quote : ℕ) (bs : List ℕ) (outcome : Result ℕ LexRefusal) → is_quote quote ≡ true → EndsWithin (at + 1) (length bs) outcome → EndsText quote (at + 1) bs outcome → FoundSpelled (quote ∷ bs) (text_until at outcome)
text_until_spelled at quote bs (Ok past) quoted within ends =
    record { plain = tt; spelled = record { quote = quote; inner = ends.inner; parts = take_one_more (past - at) (past - (at + 1)) quote bs (omega (arith, within.0)) ∙ ap (λ l. quote ∷ l) ends.parts; quoted = quoted; printable = ends.printable } }
text_until_spelled at quote bs (Err e) quoted within ends = tt

text_spelled : (at : ℕ) (rest : List ℕ) → first_passes is_quote rest ≡ true → FoundSpelled rest (text_at at rest)
text_spelled at [] h = tt
text_spelled at (quote ∷ bs) h = text_until_spelled at quote bs (text_end at quote false (at + 1) bs) h (text_end_within at quote false (at + 1) bs) (text_end_text at quote false (at + 1) bs)

pub span_spelled : (at : ℕ) (rest : List ℕ) → FoundSpelled rest (span_at at rest)
unfolding span_at
span_spelled at rest =
    both (FoundSpelled rest) (first_passes begins_name rest) (name_at rest) _ (λ h. name_spelled rest h)
    (λ _. both (FoundSpelled rest) (first_passes is_ascii_digit rest) (number_at at rest) _ (λ h. number_spelled at rest h)
    (λ _. both (FoundSpelled rest) (first_passes (λ b. b == 46) rest && first_passes is_ascii_digit (drop 1 rest)) (Err (BadNumber at)) _ (λ _. tt)
    (λ _. both (FoundSpelled rest) (first_passes is_quote rest) (text_at at rest) (mark_at at rest) (λ h. text_spelled at rest h) (λ _. mark_spelled at rest))))

pub span_is_spelled : (at : ℕ) (rest : List ℕ) (span : Span) → span_at at rest ≡ Ok span → Spelled rest span
span_is_spelled at rest span e = subst (FoundSpelled rest) e (span_spelled at rest)
