-- What a source is refused for is never want of memory.
use Rattle.std.proofs.Common.{◌≡◌, ◌≢◌, ℕ, ◌+◌, ◌-◌, zero, suc, List, [], ◌∷◌, Bool, true, false, ltb, ◌==◌, not, ◌&&◌, length, take, drop, subst, Result, Ok, Err}
use Rattle.std.specs.Prelude.{IfErr}
use Rattle.std.specs.List.{prefix_len}
use Rattle.std.specs.Char.{is_ascii_digit}
use Rattle.mx_lex.specs.Bytes.{begins_name, is_printable, is_quote, is_escaped, first_passes}
use Rattle.mx_lex.specs.Spans.{Found, found, name_at, is_int, is_fix, number_at, text_end, text_until, text_at, long_marks, short_marks, begins_with_one, mark_at, span_at}
use Rattle.mx_lex.specs.Heads.{empty_token, ends_here, comment_at, token_from, head_at}
use Rattle.mx_lex.specs.Lines.{Indented, given_before, dedented, line_indented, is_blank, opened_at, lead}
use Rattle.mx_lex.specs.Lexing.{Reading, Step, Tokens, step_at, ◌>>=◌, tokens_before, tokens_from, tokens_of, beginning}
use Rattle.mx_lex.specs.declared.Token.{Token}
use Rattle.mx_lex.specs.declared.TokenKind.TheVariants.{Int, Fix, Dedent}
use Rattle.mx_lex.specs.declared.LexRefusal.{LexRefusal}
use Rattle.mx_lex.specs.declared.LexRefusal.TheVariants.{TooLong, BadNumber, NoMemory}
use Rattle.mx_lex.specs.declared.line.Line.{Line}
use Rattle.mx_lex.specs.declared.line.Phase.{Phase}
use Rattle.mx_lex.specs.declared.line.Phase.TheVariants.{BeforeFirst, AtStart, Inside}
use Rattle.mx_lex.proofs.Cases.{both}

abbrev IsOfSource : LexRefusal → Type 0
IsOfSource NoMemory = ⊥
IsOfSource _ = Unit {0}

abbrev Refuses : {A : Type 0} → Result A LexRefusal → Type 0
Refuses outcome = IfErr outcome IsOfSource

text_end_refuses : (start quote : ℕ) (escaped : Bool) (place : ℕ) (bytes : List ℕ) → Refuses (text_end start quote escaped place bytes)
text_end_refuses start quote escaped place [] = tt
text_end_refuses start quote escaped place (b ∷ bs) =
    both Refuses (b == 10) _ _ (λ _. tt)
    (λ _. both Refuses (not (is_printable b)) _ _ (λ _. tt)
    (λ _. both Refuses escaped _ _
    (λ _. both Refuses (is_escaped b) _ _ (λ _. text_end_refuses start quote false (place + 1) bs) (λ _. tt))
    (λ _. both Refuses (b == 92) _ _ (λ _. text_end_refuses start quote true (place + 1) bs)
    (λ _. both Refuses (b == quote) _ _ (λ _. tt) (λ _. text_end_refuses start quote false (place + 1) bs)))))

text_until_refuses : (at : ℕ) (outcome : Result ℕ LexRefusal) → Refuses outcome → Refuses (text_until at outcome)
text_until_refuses at (Ok past) h = tt
text_until_refuses at (Err e) h = h

text_refuses : (at : ℕ) (bytes : List ℕ) → Refuses (text_at at bytes)
text_refuses at [] = tt
text_refuses at (quote ∷ bs) = text_until_refuses at (text_end at quote false (at + 1) bs) (text_end_refuses at quote false (at + 1) bs)

name_refuses : (bytes : List ℕ) → Refuses (name_at bytes)
unfolding name_at
name_refuses bytes = tt

number_refuses : (at : ℕ) (bytes : List ℕ) → Refuses (number_at at bytes)
unfolding number_at
number_refuses at bytes =
    let whole = prefix_len is_ascii_digit bytes in
    let behind = drop whole bytes in
    let after = drop 1 behind in
    let decimals = prefix_len is_ascii_digit after in
    both Refuses (first_passes (λ b. b == 46) behind) _ _
    (λ _. both Refuses (is_fix (take whole bytes) (take decimals after) (drop decimals after)) (found Fix (whole + 1 + decimals)) (Err (BadNumber at)) (λ _. tt) (λ _. tt))
    (λ _. both Refuses (is_int (take whole bytes) behind) (found Int whole) (Err (BadNumber at)) (λ _. tt) (λ _. tt))

mark_refuses : (at : ℕ) (bytes : List ℕ) → Refuses (mark_at at bytes)
unfolding mark_at
mark_refuses at bytes =
    both Refuses (begins_with_one long_marks bytes) _ _ (λ _. tt) (λ _. both Refuses (begins_with_one short_marks bytes) _ _ (λ _. tt) (λ _. tt))

span_refuses : (at : ℕ) (bytes : List ℕ) → Refuses (span_at at bytes)
unfolding span_at
span_refuses at bytes =
    both Refuses (first_passes begins_name bytes) _ _ (λ _. name_refuses bytes)
    (λ _. both Refuses (first_passes is_ascii_digit bytes) _ _ (λ _. number_refuses at bytes)
    (λ _. both Refuses (first_passes (λ b. b == 46) bytes && first_passes is_ascii_digit (drop 1 bytes)) _ _ (λ _. tt)
    (λ _. both Refuses (first_passes is_quote bytes) _ _ (λ _. text_refuses at bytes) (λ _. mark_refuses at bytes))))

token_refuses : (at : ℕ) (line : Line) (b : ℕ) (outcome : Found) → Refuses outcome → Refuses (token_from at line b outcome)
token_refuses at line b (Ok span) h = tt
token_refuses at line b (Err e) h = h

comment_refuses : (at : ℕ) (line : Line) (bytes : List ℕ) → Refuses (comment_at at line bytes)
unfolding comment_at
comment_refuses at line bytes = both Refuses (ends_here (drop (prefix_len is_printable bytes) bytes)) _ _ (λ _. tt) (λ _. tt)

head_refuses : (at : ℕ) (line : Line) (bytes : List ℕ) → Refuses (head_at at line bytes)
unfolding head_at
head_refuses at line [] = tt
head_refuses at line (b ∷ bs) =
    both Refuses (b == 32) _ _ (λ _. tt)
    (λ _. both Refuses (b == 10) _ _ (λ _. tt)
    (λ _. both Refuses (b == 35) _ _ (λ _. comment_refuses at line (b ∷ bs))
    (λ _. token_refuses at line b (span_at at (b ∷ bs)) (span_refuses at (b ∷ bs)))))

given_refuses : (front : List Token) (outcome : Indented) → Refuses outcome → Refuses (given_before front outcome)
given_refuses front (Ok levels) h = tt
given_refuses front (Err e) h = h

dedented_refuses : (at line indent : ℕ) (stack : List ℕ) → Refuses (dedented at line indent stack)
dedented_refuses at line indent [] = tt
dedented_refuses at line indent (top ∷ below) =
    both Refuses (ltb indent top) _ _ (λ _. given_refuses (empty_token Dedent at ∷ []) (dedented at line indent below) (dedented_refuses at line indent below))
    (λ _. both Refuses (indent == top) _ _ (λ _. tt) (λ _. tt))

line_refuses : (phase : Phase) (at line indent : ℕ) (stack : List ℕ) → Refuses (line_indented phase at line indent stack)
line_refuses BeforeFirst at line indent stack = both Refuses (indent == 0) _ _ (λ _. tt) (λ _. tt)
line_refuses AtStart at line indent [] = tt
line_refuses AtStart at line indent (top ∷ below) = both Refuses (ltb top indent) _ _ (λ _. tt) (λ _. dedented_refuses at line indent (top ∷ below))
line_refuses Inside at line indent stack = tt

opened_refuses : (at : ℕ) (line : Line) (indent : ℕ) (stack first : List ℕ) → Refuses (opened_at at line indent stack first)
opened_refuses at line indent stack first = both Refuses (is_blank first) _ _ (λ _. tt) (λ _. line_refuses line.phase at line.number indent stack)

then_refuses : {A B : Type 0} (outcome : Result A LexRefusal) (f : A → Result B LexRefusal) → Refuses outcome → ((a : A) → Refuses (f a)) → Refuses (outcome >>= f)
then_refuses (Ok a) f h g = g a
then_refuses (Err e) f h g = h

step_refuses : (at : ℕ) (reading : Reading) (bytes : List ℕ) → Refuses (step_at at reading bytes)
unfolding step_at
step_refuses at reading bytes =
    let spaces = lead reading.line bytes in
    let first = drop spaces bytes in
    then_refuses (opened_at (at + spaces) reading.line spaces reading.stack first) _ (opened_refuses (at + spaces) reading.line spaces reading.stack first)
    (λ levels. then_refuses (head_at (at + spaces) reading.line first) _ (head_refuses (at + spaces) reading.line first) (λ head. tt))

before_refuses : (front : List Token) (outcome : Tokens) → Refuses outcome → Refuses (tokens_before front outcome)
before_refuses front (Ok tokens) h = tt
before_refuses front (Err e) h = h

tokens_refuse : (bytes : List ℕ) (passed at : ℕ) (reading : Reading) → Refuses (tokens_from bytes passed at reading)
unfolding tokens_from
tokens_refuse [] passed at reading = tt
tokens_refuse (b ∷ bs) (suc passed) at reading = tokens_refuse bs passed (at + 1) reading
tokens_refuse (b ∷ bs) zero at reading = go (step_at at reading (b ∷ bs)) (step_refuses at reading (b ∷ bs)) (λ step. tokens_refuse bs (step.taken - 1) (at + 1) step.next)
  where
    go : (outcome : Result Step LexRefusal) → Refuses outcome → ((step : Step) → Refuses (tokens_from bs (step.taken - 1) (at + 1) step.next)) → Refuses (elim outcome as (λ _. Tokens) [ Ok step ↦ tokens_before step.given (tokens_from bs (step.taken - 1) (at + 1) step.next) | Err e ↦ Err e ])
    go (Ok step) h rest = before_refuses step.given (tokens_from bs (step.taken - 1) (at + 1) step.next) (rest step)
    go (Err e) h rest = h

pub source_refuses : (source : List ℕ) (why : LexRefusal) → tokens_of source ≡ Err why → why ≢ NoMemory
unfolding tokens_of
source_refuses source why e is_none =
    let refuses : Refuses (tokens_of source) = both Refuses (ltb 65536 (length source)) (Err TooLong) (tokens_from source 0 0 beginning) (λ _. tt) (λ _. tokens_refuse source 0 0 beginning) in
    subst IsOfSource is_none (subst Refuses e refuses)
