-- A name, number, text or mark takes at least one byte, and no more than are left.
use Rattle.std.proofs.Common.{◌≡◌, ℕ, ◌+◌, ◌<◌, ◌≤◌, suc, List, [], ◌∷◌, Bool, true, false, ◌==◌, not, lit<, ◌&&◌, length, take, drop, sym, ◌∙◌, subst, Result, Ok, Err, arith, length-drop}
use Rattle.std.specs.Prelude.{IfOk}
use Rattle.std.specs.List.{prefix_len}
use Rattle.std.specs.Char.{is_ascii_digit}
use Rattle.std.proofs.lemmas.List.Sums.{prefix_len-le-length}
use Rattle.std.proofs.lemmas.Bool.{false≢true, or_left}
use Rattle.mx_lex.specs.Bytes.{begins_name, continues_name, is_printable, is_quote, is_escaped, first_passes}
use Rattle.mx_lex.specs.Spans.{Found, found, name_at, is_int, is_fix, number_at, text_end, text_until, text_at, long_marks, short_marks, begins_with_one, mark_at, span_at}
use Rattle.mx_lex.specs.declared.TokenKind.TheVariants.{Int, Fix, Mark}
use Rattle.mx_lex.specs.declared.LexRefusal.{LexRefusal}
use Rattle.mx_lex.specs.declared.LexRefusal.TheVariants.{BadByte, BadNumber}
use Rattle.mx_lex.specs.declared.spans.Span.{Span}
use Rattle.mx_lex.proofs.Cases.{both}

pub record IsWithin (rest : List ℕ) (len : ℕ) : Type 0 where
  pub some : 0 < len
  pub within : len ≤ length rest

abbrev pub FoundWithin : List ℕ → Found → Type 0
FoundWithin rest outcome = IfOk outcome (λ span. IsWithin rest span.len)

-- a front that begins with a byte that passes
pub front_within : (p : ℕ → Bool) (rest : List ℕ) → first_passes p rest ≡ true → IsWithin rest (prefix_len p rest)
front_within p [] h = absurd (false≢true h)
front_within p (b ∷ bs) h = record { some = rw h (omega arith); within = prefix_len-le-length p (b ∷ bs) }

first_of_some : (p : ℕ → Bool) (rest : List ℕ) → first_passes p rest ≡ true → 0 < length rest
first_of_some p [] h = absurd (false≢true h)
first_of_some p (b ∷ bs) h = omega arith

pub first_weaker : (p q : ℕ → Bool) → ((b : ℕ) → p b ≡ true → q b ≡ true) → (rest : List ℕ) → first_passes p rest ≡ true → first_passes q rest ≡ true
first_weaker p q weaker [] h = absurd (false≢true h)
first_weaker p q weaker (b ∷ bs) h = weaker b h

pub name_within : (rest : List ℕ) → first_passes begins_name rest ≡ true → FoundWithin rest (name_at rest)
unfolding name_at
name_within rest h = front_within continues_name rest (first_weaker begins_name continues_name (λ b begins. or_left (begins_name b) (is_ascii_digit b) begins) rest h)

pub number_within : (at : ℕ) (rest : List ℕ) → first_passes is_ascii_digit rest ≡ true → FoundWithin rest (number_at at rest)
unfolding number_at
number_within at rest h =
    let whole = prefix_len is_ascii_digit rest in
    let digits = front_within is_ascii_digit rest h in
    let behind = drop whole rest in
    let after = drop 1 behind in
    let decimals = prefix_len is_ascii_digit after in
    both (FoundWithin rest) (first_passes (λ b. b == 46) behind) _ _
    (λ point. both (FoundWithin rest) (is_fix (take whole rest) (take decimals after) (drop decimals after)) (found Fix (whole + 1 + decimals)) (Err (BadNumber at))
    (λ _. let one = first_of_some (λ b. b == 46) behind point in
    let few = prefix_len-le-length is_ascii_digit after in
    record { some = omega arith; within = omega (arith, length-drop whole rest, length-drop 1 behind) })
    (λ _. tt))
    (λ _. both (FoundWithin rest) (is_int (take whole rest) behind) (found Int whole) (Err (BadNumber at)) (λ _. digits) (λ _. tt))

abbrev pub EndsWithin : ℕ → ℕ → Result ℕ LexRefusal → Type 0
EndsWithin place left outcome = IfOk outcome (λ past. (place < past) × (past ≤ place + left))

ends_later : (place left : ℕ) (outcome : Result ℕ LexRefusal) → EndsWithin (place + 1) left outcome → EndsWithin place (suc left) outcome
ends_later place left (Ok past) h = (omega arith, omega arith)
ends_later place left (Err e) h = tt

pub text_end_within : (start quote : ℕ) (escaped : Bool) (place : ℕ) (bytes : List ℕ) → EndsWithin place (length bytes) (text_end start quote escaped place bytes)
text_end_within start quote escaped place [] = tt
text_end_within start quote escaped place (b ∷ bs) =
    let P : Result ℕ LexRefusal → Type 0 = EndsWithin place (suc (length bs)) in
    let later = λ (e : Bool). ends_later place (length bs) (text_end start quote e (place + 1) bs) (text_end_within start quote e (place + 1) bs) in
    both P (b == 10) _ _ (λ _. tt)
    (λ _. both P (not (is_printable b)) _ _ (λ _. tt)
    (λ _. both P escaped _ _
    (λ _. both P (is_escaped b) _ _ (λ _. later false) (λ _. tt))
    (λ _. both P (b == 92) _ _ (λ _. later true)
    (λ _. both P (b == quote) _ _ (λ _. (omega arith, omega arith))
    (λ _. later false)))))

text_until_within : (at left : ℕ) (rest : List ℕ) (outcome : Result ℕ LexRefusal) → EndsWithin (at + 1) left outcome → left + 1 ≤ length rest → FoundWithin rest (text_until at outcome)
text_until_within at left rest (Ok past) h some = record { some = omega arith; within = omega arith }
text_until_within at left rest (Err e) h some = tt

pub text_within : (at : ℕ) (rest : List ℕ) → FoundWithin rest (text_at at rest)
text_within at [] = tt
text_within at (quote ∷ bs) = text_until_within at (length bs) (quote ∷ bs) (text_end at quote false (at + 1) bs) (text_end_within at quote false (at + 1) bs) (omega arith)

-- no mark begins the empty rest, and no long one a rest of one byte
long_has_two : (rest : List ℕ) → begins_with_one long_marks rest ≡ true → 2 ≤ length rest
long_has_two [] h = absurd (false≢true h)
long_has_two (b ∷ []) h = absurd (false≢true (sym (grind arith) ∙ h))
long_has_two (b ∷ c ∷ bs) h = omega arith

short_has_one : (rest : List ℕ) → begins_with_one short_marks rest ≡ true → 1 ≤ length rest
short_has_one [] h = absurd (false≢true h)
short_has_one (b ∷ bs) h = omega arith

pub mark_within : (at : ℕ) (rest : List ℕ) → FoundWithin rest (mark_at at rest)
unfolding mark_at
mark_within at rest =
    both (FoundWithin rest) (begins_with_one long_marks rest) (found Mark 2) _ (λ h. record { some = lit< tt; within = long_has_two rest h })
    (λ _. both (FoundWithin rest) (begins_with_one short_marks rest) (found Mark 1) (Err (BadByte at)) (λ h. record { some = lit< tt; within = short_has_one rest h }) (λ _. tt))

pub span_within : (at : ℕ) (rest : List ℕ) → FoundWithin rest (span_at at rest)
unfolding span_at
span_within at rest =
    both (FoundWithin rest) (first_passes begins_name rest) (name_at rest) _ (λ h. name_within rest h)
    (λ _. both (FoundWithin rest) (first_passes is_ascii_digit rest) (number_at at rest) _ (λ h. number_within at rest h)
    (λ _. both (FoundWithin rest) (first_passes (λ b. b == 46) rest && first_passes is_ascii_digit (drop 1 rest)) (Err (BadNumber at)) _ (λ _. tt)
    (λ _. both (FoundWithin rest) (first_passes is_quote rest) (text_at at rest) (mark_at at rest) (λ _. text_within at rest) (λ _. mark_within at rest))))

pub span_len : (at : ℕ) (rest : List ℕ) (span : Span) → span_at at rest ≡ Ok span → IsWithin rest span.len
span_len at rest span e = subst (FoundWithin rest) e (span_within at rest)

pub text_end_past : (start quote place : ℕ) (bytes : List ℕ) (past : ℕ) → text_end start quote false place bytes ≡ Ok past → place < past
text_end_past start quote place bytes past e =
    let ends : EndsWithin place (length bytes) (Ok past) = subst (EndsWithin place (length bytes)) e (text_end_within start quote false place bytes) in ends.0
