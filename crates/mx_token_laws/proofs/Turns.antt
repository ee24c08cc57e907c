-- What the lexer does with the bytes between tokens.
use Rattle.std.proofs.Common.{◌≡◌, ℕ, ◌+◌, ◌<◌, suc, List, [], ◌∷◌, ◌++◌, Bool, true, false, not, ◌==◌, ◌||◌, length, drop, refl, sym, ap, ◌∙◌, subst, append_assoc, Ok, Err, arith, length-append}
use Rattle.std.specs.List.{prefix_len, AllPass}
use Rattle.std.proofs.Math.Seq.{drop-append_seam}
use Rattle.std.proofs.lemmas.Bool.{false≢true, eqb-true}
use Rattle.std.proofs.lemmas.List.Elements.{All-cons, All-head, All-tail}
use Rattle.mx_lex.specs.Bytes.{is_printable, first_passes}
use Rattle.mx_lex.specs.Spans.{span_at, found}
use Rattle.mx_lex.specs.Heads.{is_inside, ends_here, brackets_behind, head_at, comment_at, newline_at, ended}
use Rattle.mx_lex.specs.Lines.{Levels, lead, line_indented, opened_at}
use Rattle.mx_lex.specs.Lexing.{Reading, Tokens, step_at, step_from, tokens_before, tokens_from}
use Rattle.mx_lex.specs.declared.Token.{Token}
use Rattle.mx_lex.specs.declared.TokenKind.{TokenKind}
use Rattle.mx_lex.specs.declared.line.Head.{Head}
use Rattle.mx_lex.specs.declared.line.Line.{Line}
use Rattle.mx_lex.specs.declared.line.Phase.{Phase}
use Rattle.mx_lex.specs.declared.line.Phase.TheVariants.{Inside}
use Rattle.mx_lex.proofs.Loop.{after_step, tokens_turn}
use Rattle.mx_token_laws.specs.Standing.{AreSpaces, IsGap, is_solid}
use Rattle.mx_token_laws.proofs.Spans.{front_is}

-- a state of the lexer
abbrev pub at_line : Phase → ℕ → ℕ → List ℕ → Reading
at_line phase number brackets stack = record { line = record { number = number; phase = phase; brackets = brackets }; stack = stack }

before_none : (outcome : Tokens) → tokens_before [] outcome ≡ outcome
before_none (Ok tokens) = refl
before_none (Err e) = refl

-- a step whose parts are known
pub step_gives : (at : ℕ) (reading : Reading) (rest : List ℕ) (levels : Levels) (head : Head) → let spaces = lead reading.line rest in opened_at (at + spaces) reading.line spaces reading.stack (drop spaces rest) ≡ Ok levels → head_at (at + spaces) reading.line (drop spaces rest) ≡ Ok head → step_at at reading rest ≡ Ok (step_from levels spaces head)
unfolding step_at
step_gives at reading rest levels head opened is_head = rw (opened, is_head) refl

-- the tokens of the rest are those of a step, and those behind it
pub turn_is : (rest behind : List ℕ) (at taken : ℕ) (reading next : Reading) (given : List Token) → 0 < length rest → step_at at reading rest ≡ Ok (record { given = given; taken = taken; next = next }) → drop taken rest ≡ behind → tokens_from rest 0 at reading ≡ tokens_before given (tokens_from behind 0 (at + taken) next)
turn_is rest behind at taken reading next given some step is =
    tokens_turn rest at reading some ∙ ap (after_step rest at) step ∙ ap (λ l. tokens_before given (tokens_from l 0 (at + taken) next)) is

pub silent_turn : (rest behind : List ℕ) (at taken : ℕ) (reading next : Reading) → 0 < length rest → step_at at reading rest ≡ Ok (record { given = []; taken = taken; next = next }) → drop taken rest ≡ behind → tokens_from rest 0 at reading ≡ tokens_from behind 0 (at + taken) next
silent_turn rest behind at taken reading next some step is =
    turn_is rest behind at taken reading next [] some step is ∙ before_none (tokens_from behind 0 (at + taken) next)

-- ---- a comment

ends_stop : (behind : List ℕ) → ends_here behind ≡ true → first_passes is_printable behind ≡ false
ends_stop [] h = refl
ends_stop (b ∷ bs) h = subst (λ c. is_printable c ≡ false) (sym (eqb-true b 10 h)) refl

comment_is : (at : ℕ) (line : Line) (text behind : List ℕ) → AllPass is_printable text → ends_here behind ≡ true → head_at at line (35 ∷ text ++ behind) ≡ Ok (record { token = newline_at at line; taken = suc (length text); next = ended line })
unfolding head_at comment_at
comment_is at line text behind printable ends =
    let all = All-cons (λ c. is_printable c ≡ true) 35 text refl printable in
    let long : prefix_len is_printable (35 ∷ text ++ behind) ≡ suc (length text) = front_is is_printable (35 ∷ text) behind all (ends_stop behind ends) in
    let there : drop (suc (length text)) (35 ∷ text ++ behind) ≡ behind = drop-append_seam text behind in
    rw (long, there, ends) refl

-- ---- inside a line

open_brackets : (brackets : ℕ) → (brackets ≡ 0 → ⊥) → (brackets == 0) ≡ false
open_brackets brackets h = go (brackets == 0) refl
  where
    go : (t : Bool) → (brackets == 0) ≡ t → t ≡ false
    go true is = absurd (h (eqb-true brackets 0 is))
    go false is = refl

space_inside : (at number brackets : ℕ) (stack rest : List ℕ) → step_at at (at_line Inside number brackets stack) (32 ∷ rest) ≡ Ok (record { given = []; taken = 1; next = at_line Inside number brackets stack })
unfolding step_at head_at
space_inside at number brackets stack rest = refl

end_inside : (at number brackets : ℕ) (stack rest : List ℕ) → (brackets == 0) ≡ false → step_at at (at_line Inside number brackets stack) (10 ∷ rest) ≡ Ok (record { given = []; taken = 1; next = at_line Inside (number + 1) brackets stack })
unfolding step_at head_at
end_inside at number brackets stack rest some = rw some refl

comment_inside : (at number brackets : ℕ) (stack text behind : List ℕ) → (brackets == 0) ≡ false → AllPass is_printable text → ends_here behind ≡ true → step_at at (at_line Inside number brackets stack) (35 ∷ text ++ behind) ≡ Ok (record { given = []; taken = 0 + suc (length text); next = at_line Inside number brackets stack })
unfolding step_at head_at comment_at
comment_inside at number brackets stack text behind some printable ends =
    let all = All-cons (λ c. is_printable c ≡ true) 35 text refl printable in
    let long : prefix_len is_printable (35 ∷ text ++ behind) ≡ suc (length text) = front_is is_printable (35 ∷ text) behind all (ends_stop behind ends) in
    let there : drop (suc (length text)) (35 ∷ text ++ behind) ≡ behind = drop-append_seam text behind in
    rw (long, there, ends, some) refl

-- the lexer comes from one place to another with no token
pub record Passes (from : List ℕ) (at : ℕ) (phase : Phase) (number brackets : ℕ) (stack : List ℕ) (to : List ℕ) (there : ℕ) : Type 0 where
  pub line : ℕ
  pub same : tokens_from from 0 at (at_line phase number brackets stack) ≡ tokens_from to 0 there (at_line phase line brackets stack)

stays : (bytes : List ℕ) (at there : ℕ) (phase : Phase) (number brackets : ℕ) (stack : List ℕ) → at ≡ there → Passes bytes at phase number brackets stack bytes there
stays bytes at there phase number brackets stack is = record { line = number; same = ap (λ n. tokens_from bytes 0 n (at_line phase number brackets stack)) is }

goes_on : (from middle to : List ℕ) (at next there taken : ℕ) (phase : Phase) (number line brackets : ℕ) (stack : List ℕ) → 0 < length from → step_at at (at_line phase number brackets stack) from ≡ Ok (record { given = []; taken = taken; next = at_line phase line brackets stack }) → drop taken from ≡ middle → at + taken ≡ next → Passes middle next phase line brackets stack to there → Passes from at phase number brackets stack to there
goes_on from middle to at next there taken phase number line brackets stack some step is place further =
    record {
      line = further.line;
      same = silent_turn from middle at taken (at_line phase number brackets stack) (at_line phase line brackets stack) some step is ∙ ap (λ n. tokens_from middle 0 n (at_line phase line brackets stack)) place ∙ further.same;
    }

pub gap_inside : (bytes gap : List ℕ) (at there number brackets : ℕ) (stack : List ℕ) → IsGap bytes gap → (brackets ≡ 0 → AreSpaces gap) → there ≡ at + length gap → Passes (gap ++ bytes) at Inside number brackets stack bytes there
gap_inside bytes _ at there number brackets stack IsGap.none spaces is = stays bytes at there Inside number brackets stack (omega (arith, is))
gap_inside bytes _ at there number brackets stack (IsGap.space bs gap) spaces is =
    goes_on (32 ∷ bs ++ bytes) (bs ++ bytes) bytes at (at + 1) there 1 Inside number number brackets stack (omega arith) (space_inside at number brackets stack (bs ++ bytes)) refl refl
    (gap_inside bytes bs (at + 1) there number brackets stack gap (λ none. All-tail (λ c. (c == 32) ≡ true) 32 bs (spaces none)) (omega (arith, is)))
gap_inside bytes _ at there number brackets stack (IsGap.line_end bs gap) spaces is =
    let some = open_brackets brackets (λ none. let no_space = All-head (λ c. (c == 32) ≡ true) 10 bs (spaces none) in false≢true no_space) in
    goes_on (10 ∷ bs ++ bytes) (bs ++ bytes) bytes at (at + 1) there 1 Inside number (number + 1) brackets stack (omega arith) (end_inside at number brackets stack (bs ++ bytes) some) refl refl
    (gap_inside bytes bs (at + 1) there (number + 1) brackets stack gap (λ none. All-tail (λ c. (c == 32) ≡ true) 10 bs (spaces none)) (omega (arith, is)))
gap_inside bytes _ at there number brackets stack (IsGap.comment text bs printable ends gap) spaces is =
    let some = open_brackets brackets (λ none. let no_space = All-head (λ c. (c == 32) ≡ true) 35 (text ++ bs) (spaces none) in false≢true no_space) in
    let regroup : (35 ∷ text ++ bs) ++ bytes ≡ 35 ∷ text ++ (bs ++ bytes) = ap (λ l. 35 ∷ l) (append_assoc text bs bytes) in
    let long = length-append text bs in
    let there_is : drop (0 + suc (length text)) (35 ∷ text ++ (bs ++ bytes)) ≡ bs ++ bytes = let bare : 0 + suc (length text) ≡ suc (length text) = omega arith in ap (λ n. drop n (35 ∷ text ++ (bs ++ bytes))) bare ∙ drop-append_seam text (bs ++ bytes) in
    subst (λ l. Passes l at Inside number brackets stack bytes there) (sym regroup)
    (goes_on (35 ∷ text ++ (bs ++ bytes)) (bs ++ bytes) bytes at (at + suc (length text)) there (0 + suc (length text)) Inside number number brackets stack (omega arith) (comment_inside at number brackets stack text (bs ++ bytes) some printable ends) there_is (omega arith)
    (gap_inside bytes bs (at + suc (length text)) there number brackets stack gap (λ none. absurd (let no_space = All-head (λ c. (c == 32) ≡ true) 35 (text ++ bs) (spaces none) in false≢true no_space)) (omega (arith, is, long))))

-- ---- in front of a line

pub end_outside : (at number brackets : ℕ) (phase : Phase) (stack spaces rest : List ℕ) → is_inside phase ≡ false → AreSpaces spaces → step_at at (at_line phase number brackets stack) (spaces ++ 10 ∷ rest) ≡ Ok (record { given = []; taken = length spaces + 1; next = at_line phase (number + 1) brackets stack })
unfolding step_at head_at
end_outside at number brackets phase stack spaces rest out are_spaces =
    let long = front_is (λ b. b == 32) spaces (10 ∷ rest) are_spaces refl in
    let first = drop-append_seam spaces (10 ∷ rest) in
    rw (out, long, first, out) refl

pub comment_outside : (at number brackets : ℕ) (phase : Phase) (stack spaces text behind : List ℕ) → is_inside phase ≡ false → AreSpaces spaces → AllPass is_printable text → ends_here behind ≡ true → step_at at (at_line phase number brackets stack) (spaces ++ (35 ∷ text ++ behind)) ≡ Ok (record { given = []; taken = length spaces + suc (length text); next = at_line phase number brackets stack })
unfolding step_at head_at comment_at
comment_outside at number brackets phase stack spaces text behind out are_spaces printable ends =
    let lead_is = front_is (λ b. b == 32) spaces (35 ∷ text ++ behind) are_spaces refl in
    let first = drop-append_seam spaces (35 ∷ text ++ behind) in
    let all = All-cons (λ c. is_printable c ≡ true) 35 text refl printable in
    let long : prefix_len is_printable (35 ∷ text ++ behind) ≡ suc (length text) = front_is is_printable (35 ∷ text) behind all (ends_stop behind ends) in
    let there : drop (suc (length text)) (35 ∷ text ++ behind) ≡ behind = drop-append_seam text behind in
    rw (out, lead_is, first, long, there, ends, out) refl

none_of : (x y z : Bool) → not (x || y || z) ≡ true → (x ≡ false) × (y ≡ false) × (z ≡ false)
none_of false false false h = (refl, refl, refl)
none_of false false true h = absurd (false≢true h)
none_of false true z h = absurd (false≢true h)
none_of true y z h = absurd (false≢true h)

-- the first token of a line, with what its indent gives
pub first_step : (at number brackets len : ℕ) (phase : Phase) (kind : TokenKind) (stack spaces : List ℕ) (b : ℕ) (bs : List ℕ) (levels : Levels) → is_inside phase ≡ false → AreSpaces spaces → is_solid (b ∷ bs) ≡ true → span_at (at + length spaces) (b ∷ bs) ≡ found kind len → line_indented phase (at + length spaces) number (length spaces) stack ≡ Ok levels → step_at at (at_line phase number brackets stack) (spaces ++ b ∷ bs) ≡ Ok (record { given = levels.given ++ record { kind = kind; at = at + length spaces; len = len } ∷ []; taken = length spaces + len; next = at_line Inside number (brackets_behind b brackets) levels.stack })
unfolding step_at head_at
first_step at number brackets len phase kind stack spaces b bs levels out are_spaces solid is_span indented =
    let bytes = none_of (b == 32) (b == 10) (b == 35) solid in
    let long = front_is (λ c. c == 32) spaces (b ∷ bs) are_spaces bytes.0 in
    let first = drop-append_seam spaces (b ∷ bs) in
    rw (out, long, first, bytes.0, bytes.1, bytes.2, is_span, indented) refl

-- a further token of a line
pub further_step : (at number brackets len : ℕ) (kind : TokenKind) (stack : List ℕ) (b : ℕ) (bs : List ℕ) → is_solid (b ∷ bs) ≡ true → span_at (at + 0) (b ∷ bs) ≡ found kind len → step_at at (at_line Inside number brackets stack) (b ∷ bs) ≡ Ok (record { given = record { kind = kind; at = at + 0; len = len } ∷ []; taken = 0 + len; next = at_line Inside number (brackets_behind b brackets) stack })
unfolding step_at head_at
further_step at number brackets len kind stack b bs solid is_span =
    let bytes = none_of (b == 32) (b == 10) (b == 35) solid in
    rw (bytes.0, bytes.1, bytes.2, is_span) refl
