-- The lexer's steps read a source as it stands.
use Rattle.std.proofs.Common.{◌≡◌, ℕ, ◌+◌, ◌≤◌, List, [], ◌∷◌, ◌++◌, suc, Bool, true, false, cond, not, ◌==◌, ◌&&◌, ◌||◌, length, take, drop, refl, sym, ap, ◌∙◌, subst, ◌⊎◌, ⊎_elim, inl, inr, append_assoc, append-nil, None, Some, Result, Ok, Err, arith, length-append, length-take-le, take-append-drop}
use Rattle.std.specs.Prelude.{IfOk, option_to_list}
use Rattle.std.specs.List.{prefix_len, AllPass}
use Rattle.std.proofs.lemmas.Bool.{false≢true, and_parts, eqb-true}
use Rattle.std.proofs.lemmas.List.Sums.{prefix_len-le-length}
use Rattle.std.proofs.lemmas.List.Elements.{All-nil, All-cons, All-append}
use Rattle.mx_lex.specs.Bytes.{is_printable, first_passes}
use Rattle.mx_lex.specs.Spans.{Found, span_at}
use Rattle.mx_lex.specs.Heads.{empty_token, is_inside, ends_line, ended, next_line, newline_at, nothing, ends_here, comment_at, token_from, head_at, brackets_behind}
use Rattle.mx_lex.specs.Lines.{Levels, is_blank, line_indented, opened_at}
use Rattle.mx_lex.specs.Lexing.{Reading}
use Rattle.mx_lex.specs.declared.Token.{Token}
use Rattle.mx_lex.specs.declared.TokenKind.{TokenKind}
use Rattle.mx_lex.specs.declared.TokenKind.TheVariants.{Newline}
use Rattle.mx_lex.specs.declared.LexRefusal.{LexRefusal}
use Rattle.mx_lex.specs.declared.LexRefusal.TheVariants.{BadByte}
use Rattle.mx_lex.specs.declared.line.Head.{Head}
use Rattle.mx_lex.specs.declared.line.Line.{Line}
use Rattle.mx_lex.specs.declared.line.Phase.{Phase}
use Rattle.mx_lex.specs.declared.line.Phase.TheVariants.{BeforeFirst, AtStart, Inside}
use Rattle.mx_lex.proofs.Cases.{both, chosen}
use Rattle.mx_lex.proofs.Digits.{front_passes}
use Rattle.mx_lex.proofs.SpanBounds.{FoundWithin, span_within}
use Rattle.mx_lex.proofs.Spelled.{span_is_spelled}
use Rattle.mx_token_laws.specs.Standing.{AreSpaces, IsGap, IsToken, is_solid, Behind, in_line, BeginsLine, IsIndent, Follows, IsRead}
use Rattle.mx_token_laws.proofs.Dedents.{AreFalling, HasBegun, ReadsBehind, opened_reads, unchanged_levels, given_is}
use Rattle.mx_token_laws.proofs.Gaps.{gap_append, comment_gap}
use Rattle.mx_token_laws.proofs.Longest.{span_is_standing}

-- what tokens say and what the lexer knows agree, behind the bytes that were passed since the last token
pub record Agree (behind : Behind) (place : ℕ) (passed rest : List ℕ) (at : ℕ) (reading : Reading) : Type 0 where
  pub inside : behind.inside ≡ is_inside reading.line.phase
  pub brackets : behind.brackets ≡ reading.line.brackets
  pub levels : behind.levels ≡ reading.stack
  pub found : behind.found ≡ None
  pub begun : HasBegun reading.line.phase behind
  pub falling : AreFalling behind.levels
  pub position : at ≡ place + length passed
  pub is_gap : IsGap rest passed
  pub spaces : behind.inside ≡ true → behind.brackets ≡ 0 → AreSpaces passed
  pub starts : behind.inside ≡ false → BeginsLine place passed ⊎ (ends_here rest ≡ true)

-- the same behind the spaces that lead a line
pub record AgreeHere (behind : Behind) (place : ℕ) (gap first : List ℕ) (at indent : ℕ) (reading : Reading) : Type 0 where
  pub inside : behind.inside ≡ is_inside reading.line.phase
  pub brackets : behind.brackets ≡ reading.line.brackets
  pub levels : behind.levels ≡ reading.stack
  pub found : behind.found ≡ None
  pub begun : HasBegun reading.line.phase behind
  pub falling : AreFalling behind.levels
  pub position : at ≡ place + length gap
  pub is_gap : IsGap first gap
  pub spaces : behind.inside ≡ true → behind.brackets ≡ 0 → AreSpaces gap
  pub indented : behind.inside ≡ false → is_blank first ≡ false → IsIndent place gap indent
  pub solid : behind.inside ≡ false → first_passes (λ b. b == 32) first ≡ false

-- a step leads from one such state to another, and what is read behind it is read in front of it
pub record Passes (behind : Behind) (place : ℕ) (gap first : List ℕ) (given : List Token) (taken at : ℕ) (next : Reading) : Type 0 where
  pub state : Behind
  pub from : ℕ
  pub passed : List ℕ
  pub agree : Agree state from passed (drop taken first) (at + taken) next
  pub reads : (tokens : List Token) → IsRead state from (passed ++ drop taken first) tokens → IsRead behind place (gap ++ first) (given ++ tokens)

inside_begun : (phase : Phase) (behind : Behind) → is_inside phase ≡ true → HasBegun phase behind → behind.begun ≡ true
inside_begun BeforeFirst behind inside begun = absurd (false≢true inside)
inside_begun AtStart behind inside begun = absurd (false≢true inside)
inside_begun Inside behind inside begun = begun

-- no token is given
stays : (behind : Behind) (place : ℕ) (gap first : List ℕ) (taken at : ℕ) (next : Reading) → Agree behind place (gap ++ take taken first) (drop taken first) (at + taken) next → Passes behind place gap first [] taken at next
stays behind place gap first taken at next agree =
    record {
      state = behind;
      from = place;
      passed = gap ++ take taken first;
      agree = agree;
      reads = λ tokens read. subst (λ l. IsRead behind place l tokens) (append_assoc gap (take taken first) (drop taken first) ∙ ap (λ l. gap ++ l) (take-append-drop taken first)) read;
    }

-- NEWLINE is given
breaks : (behind : Behind) (place : ℕ) (gap first : List ℕ) (taken at : ℕ) (next : Reading) → behind.inside ≡ true → (behind.brackets ≡ 0 → AreSpaces gap) → is_blank first ≡ true → behind.brackets ≡ 0 → at ≡ place + length gap → IsGap first gap → Agree (record behind { inside = false }) at (take taken first) (drop taken first) (at + taken) next → Passes behind place gap first (empty_token Newline at ∷ []) taken at next
breaks behind place gap first taken at next inside spaces blank closed position is_gap agree =
    record {
      state = record behind { inside = false };
      from = at;
      passed = take taken first;
      agree = agree;
      reads = λ tokens read. IsRead.token behind (record behind { inside = false }) place at at 0 Newline (gap ++ first) gap first tokens refl position (omega arith) is_gap (Follows.newline inside spaces blank (inr closed)) (subst (λ l. IsRead (record behind { inside = false }) at l tokens) (take-append-drop taken first) read);
    }

-- ---- the bytes that end a line

-- how the line goes on behind a line end or a comment
pub record LineEnd (at : ℕ) (first : List ℕ) (taken : ℕ) : Type 0 where
  pub some : taken ≤ length first
  pub blank : is_blank first ≡ true
  pub is_gap : IsGap (drop taken first) (take taken first)
  -- a line begins behind it, or it stands at its end
  pub starts : (place : ℕ) (gap : List ℕ) → BeginsLine place (gap ++ take taken first) ⊎ (ends_here (drop taken first) ≡ true)

pub line_end : (at b : ℕ) (bs : List ℕ) → b ≡ 10 → LineEnd at (b ∷ bs) 1
line_end at b bs is =
    subst (λ c. LineEnd at (c ∷ bs) 1) (sym is)
    (record { some = omega arith; blank = refl; is_gap = IsGap.line_end [] IsGap.none; starts = λ place gap. inl (inr (record { front = gap; is = refl })) })

pub comment_end : (at taken b : ℕ) (text bs : List ℕ) → b ≡ 35 → taken ≤ length (b ∷ bs) → take taken (b ∷ bs) ≡ 35 ∷ text → AllPass is_printable text → ends_here (drop taken (b ∷ bs)) ≡ true → LineEnd at (b ∷ bs) taken
comment_end at taken b text bs is within parts printable ends =
    record {
      some = within;
      blank = subst (λ c. is_blank (c ∷ bs) ≡ true) (sym is) refl;
      is_gap = subst (λ l. IsGap (drop taken (b ∷ bs)) l) (sym parts) (comment_gap text (drop taken (b ∷ bs)) printable ends);
      starts = λ place gap. inr ends;
    }

not_ended : (phase : Phase) (brackets : ℕ) → (is_inside phase && (brackets == 0)) ≡ false → is_inside phase ≡ true → brackets ≡ 0 → ⊥
not_ended phase brackets differs inside none =
    let closed : (brackets == 0) ≡ true = subst (λ n. (n == 0) ≡ true) (sym none) refl in
    let all : (is_inside phase && (brackets == 0)) ≡ true = subst (λ b. (b && (brackets == 0)) ≡ true) (sym inside) closed in
    false≢true (sym differs ∙ all)

-- a line end or a comment gives NEWLINE where a line of tokens is to end, and else nothing
line_end_passes : (ends : Bool) (behind : Behind) (place : ℕ) (gap first : List ℕ) (at indent taken : ℕ) (reading : Reading) (next : Line) → ends_line reading.line ≡ ends → AgreeHere behind place gap first at indent reading → LineEnd at first taken → next.phase ≡ cond ends AtStart reading.line.phase → next.brackets ≡ reading.line.brackets → Passes behind place gap first (option_to_list (cond ends (Some (empty_token Newline at)) None)) taken at (record { line = next; stack = reading.stack })
line_end_passes true behind place gap first at indent taken reading next is_end here end phase brackets =
    let both_ways = and_parts (is_inside reading.line.phase) (reading.line.brackets == 0) is_end in
    let inside : behind.inside ≡ true = here.inside ∙ both_ways.0 in
    let closed : behind.brackets ≡ 0 = here.brackets ∙ eqb-true reading.line.brackets 0 both_ways.1 in
    let state : Behind = record behind { inside = false } in
    let long = length-take-le taken first end.some in
    breaks behind place gap first taken at (record { line = next; stack = reading.stack }) inside (here.spaces inside) end.blank closed here.position here.is_gap
    (record {
      inside = ap is_inside (sym phase);
      brackets = here.brackets ∙ sym brackets;
      levels = here.levels;
      found = here.found;
      begun = subst (λ p. HasBegun p state) (sym phase) (inside_begun reading.line.phase behind both_ways.0 here.begun);
      falling = here.falling;
      position = omega (arith, long);
      is_gap = end.is_gap;
      spaces = λ is _. absurd (false≢true is);
      starts = λ _. end.starts at [];
    })
line_end_passes false behind place gap first at indent taken reading next is_end here end phase brackets =
    let long = length-take-le taken first end.some in
    let total = length-append gap (take taken first) in
    let before = subst (λ l. IsGap l gap) (sym (take-append-drop taken first)) here.is_gap in
    let position = here.position in
    stays behind place gap first taken at (record { line = next; stack = reading.stack })
    (record {
      inside = here.inside ∙ ap is_inside (sym phase);
      brackets = here.brackets ∙ sym brackets;
      levels = here.levels;
      found = here.found;
      begun = subst (λ p. HasBegun p behind) (sym phase) here.begun;
      falling = here.falling;
      position = omega (arith, long, total, position);
      is_gap = gap_append (drop taken first) (take taken first) gap before end.is_gap;
      spaces = λ is none. absurd (not_ended reading.line.phase reading.line.brackets is_end (sym here.inside ∙ is) (sym here.brackets ∙ none));
      starts = λ _. end.starts place gap;
    })

-- ---- a token

-- inside a line no indent is read
inside_line : (phase : Phase) (at line indent : ℕ) (stack : List ℕ) (levels : Levels) → is_inside phase ≡ true → line_indented phase at line indent stack ≡ Ok levels → unchanged_levels stack ≡ levels
inside_line BeforeFirst at line indent stack levels inside e = absurd (false≢true inside)
inside_line AtStart at line indent stack levels inside e = absurd (false≢true inside)
inside_line Inside at line indent stack levels inside e = given_is (unchanged_levels stack) levels e

token_passes : (behind : Behind) (place : ℕ) (gap : List ℕ) (b : ℕ) (bs : List ℕ) (at indent len : ℕ) (kind : TokenKind) (reading : Reading) (levels : Levels) → AgreeHere behind place gap (b ∷ bs) at indent reading → is_solid (b ∷ bs) ≡ true → is_blank (b ∷ bs) ≡ false → IsToken kind len (b ∷ bs) → line_indented reading.line.phase at reading.line.number indent reading.stack ≡ Ok levels → Passes behind place gap (b ∷ bs) (levels.given ++ record { kind = kind; at = at; len = len } ∷ []) len at (record { line = record reading.line { phase = Inside; brackets = brackets_behind b reading.line.brackets }; stack = levels.stack })
token_passes behind place gap b bs at indent len kind reading levels here begins solid token is_line = split (is_inside reading.line.phase) refl
  where
    t : Token
    t = record { kind = kind; at = at; len = len }

    passes : AreFalling levels.stack → ((tokens : List Token) → ReadsBehind behind levels.stack (b ∷ bs) t tokens → IsRead behind place (gap ++ b ∷ bs) (levels.given ++ t ∷ tokens)) → Passes behind place gap (b ∷ bs) (levels.given ++ t ∷ []) len at (record { line = record reading.line { phase = Inside; brackets = brackets_behind b reading.line.brackets }; stack = levels.stack })
    passes falling reads =
        record {
          state = in_line (record behind { levels = levels.stack }) (b ∷ bs);
          from = at + len;
          passed = [];
          agree = record {
            inside = refl;
            brackets = ap (brackets_behind b) here.brackets;
            levels = refl;
            found = refl;
            begun = refl;
            falling = falling;
            position = omega arith;
            is_gap = IsGap.none;
            spaces = λ _ _. All-nil (λ c. (c == 32) ≡ true);
            starts = λ is. absurd (false≢true (sym is));
          };
          reads = λ tokens read. subst (IsRead behind place (gap ++ b ∷ bs)) (sym (append_assoc levels.given (t ∷ []) tokens)) (reads tokens read);
        }

    split : (inside : Bool) → is_inside reading.line.phase ≡ inside → Passes behind place gap (b ∷ bs) (levels.given ++ t ∷ []) len at (record { line = record reading.line { phase = Inside; brackets = brackets_behind b reading.line.brackets }; stack = levels.stack })
    split true inside =
        let same : unchanged_levels behind.levels ≡ levels = ap unchanged_levels here.levels ∙ inside_line reading.line.phase at reading.line.number indent reading.stack levels inside is_line in
        let is_inside : behind.inside ≡ true = here.inside ∙ inside in
        let go_on = λ (tokens : List Token) (read : ReadsBehind behind behind.levels (b ∷ bs) t tokens). IsRead.token behind (in_line behind (b ∷ bs)) place (at + len) at len kind (gap ++ b ∷ bs) gap (b ∷ bs) tokens refl here.position refl here.is_gap (Follows.goes_on kind len is_inside (here.spaces is_inside) token) read in
        passes (subst (λ (l : Levels). AreFalling l.stack) same here.falling)
        (subst (λ (l : Levels). (tokens : List Token) → ReadsBehind behind l.stack (b ∷ bs) t tokens → IsRead behind place (gap ++ b ∷ bs) (l.given ++ t ∷ tokens)) same go_on)
    split false out =
        let line = subst (λ s. line_indented reading.line.phase at reading.line.number indent s ≡ Ok levels) (sym here.levels) is_line in
        let is_out : behind.inside ≡ false = here.inside ∙ out in
        let opens = opened_reads reading.line.phase behind place at reading.line.number indent gap (b ∷ bs) t levels
        (record { out = is_out; has = inr (here.found, here.indented is_out solid); is_gap = here.is_gap; solid = begins; token = token; stands = refl; position = here.position })
        here.found here.begun here.falling out line
        in
        passes opens.falling opens.reads

-- ---- what stands at a place

-- where nothing but a line's end comes, no indent is read
blank_opened : (at indent : ℕ) (reading : Reading) (first : List ℕ) (levels : Levels) → is_blank first ≡ true → opened_at at reading.line indent reading.stack first ≡ Ok levels → unchanged_levels reading.stack ≡ levels
blank_opened at indent reading first levels blank e =
    ⊎_elim (λ is. given_is (unchanged_levels reading.stack) levels is.1) (λ is. absurd (false≢true (sym is.0 ∙ blank))) (chosen (is_blank first) _ _ (Ok levels) e)

solid_opened : (at indent : ℕ) (reading : Reading) (first : List ℕ) (levels : Levels) → is_blank first ≡ false → opened_at at reading.line indent reading.stack first ≡ Ok levels → line_indented reading.line.phase at reading.line.number indent reading.stack ≡ Ok levels
solid_opened at indent reading first levels solid e =
    ⊎_elim (λ is. absurd (false≢true (sym solid ∙ is.0))) (λ is. is.1) (chosen (is_blank first) _ _ (Ok levels) e)

abbrev HeadPasses : Behind → ℕ → List ℕ → List ℕ → ℕ → Levels → Result Head LexRefusal → Type 0
HeadPasses behind place gap first at levels outcome = IfOk outcome (λ head. Passes behind place gap first (levels.given ++ option_to_list head.token) head.taken at (record { line = head.next; stack = levels.stack }))

ended_phase : (line : Line) → (ended line).phase ≡ cond (ends_line line) AtStart line.phase
ended_phase line = both (λ l. l.phase ≡ cond (ends_line line) AtStart line.phase) (ends_line line) (record line { phase = AtStart }) line (λ is. subst (λ b. AtStart ≡ cond b AtStart line.phase) (sym is) refl) (λ is. subst (λ b. line.phase ≡ cond b AtStart line.phase) (sym is) refl)

ended_brackets : (line : Line) → (ended line).brackets ≡ line.brackets
ended_brackets line = both (λ l. l.brackets ≡ line.brackets) (ends_line line) (record line { phase = AtStart }) line (λ _. refl) (λ _. refl)

-- a line's end or a comment
ends_pass : (behind : Behind) (place : ℕ) (gap first : List ℕ) (at indent taken : ℕ) (reading : Reading) (next : Line) (levels : Levels) → AgreeHere behind place gap first at indent reading → opened_at at reading.line indent reading.stack first ≡ Ok levels → LineEnd at first taken → next.phase ≡ (ended reading.line).phase → next.brackets ≡ (ended reading.line).brackets → Passes behind place gap first (levels.given ++ option_to_list (newline_at at reading.line)) taken at (record { line = next; stack = levels.stack })
ends_pass behind place gap first at indent taken reading next levels here is_opened end phase brackets =
    subst (λ (l : Levels). Passes behind place gap first (l.given ++ option_to_list (newline_at at reading.line)) taken at (record { line = next; stack = l.stack })) (blank_opened at indent reading first levels end.blank is_opened)
    (line_end_passes (ends_line reading.line) behind place gap first at indent taken reading next refl here end (phase ∙ ended_phase reading.line) (brackets ∙ ended_brackets reading.line))

-- a space inside a line
space_passes : (behind : Behind) (place : ℕ) (gap : List ℕ) (b : ℕ) (bs : List ℕ) (at indent : ℕ) (reading : Reading) (levels : Levels) → b ≡ 32 → AgreeHere behind place gap (b ∷ bs) at indent reading → opened_at at reading.line indent reading.stack (b ∷ bs) ≡ Ok levels → Passes behind place gap (b ∷ bs) (levels.given ++ []) 1 at (record { line = reading.line; stack = levels.stack })
space_passes behind place gap b bs at indent reading levels is here is_opened = split (behind.inside) refl
  where
    split : (inside : Bool) → behind.inside ≡ inside → Passes behind place gap (b ∷ bs) (levels.given ++ []) 1 at (record { line = reading.line; stack = levels.stack })
    split false out = absurd (let other = here.solid out in false≢true (sym other ∙ subst (λ c. (c == 32) ≡ true) (sym is) refl))
    split true inside =
        let solid : is_blank (b ∷ bs) ≡ false = subst (λ c. is_blank (c ∷ bs) ≡ false) (sym is) refl in
        let line = solid_opened at indent reading (b ∷ bs) levels solid is_opened in
        let same = inside_line reading.line.phase at reading.line.number indent reading.stack levels (sym here.inside ∙ inside) line in
        let one : IsGap bs (b ∷ []) = subst (λ c. IsGap bs (c ∷ [])) (sym is) (IsGap.space [] IsGap.none) in
        let total = length-append gap (b ∷ []) in
        let position = here.position in
        subst (λ (l : Levels). Passes behind place gap (b ∷ bs) (l.given ++ []) 1 at (record { line = reading.line; stack = l.stack })) same
        (stays behind place gap (b ∷ bs) 1 at reading
        (record {
          inside = here.inside;
          brackets = here.brackets;
          levels = here.levels;
          found = here.found;
          begun = here.begun;
          falling = here.falling;
          position = omega (arith, total, position);
          is_gap = gap_append bs (b ∷ []) gap here.is_gap one;
          spaces = λ h closed. All-append (λ c. (c == 32) ≡ true) gap (b ∷ []) (here.spaces h closed) (All-cons (λ c. (c == 32) ≡ true) b [] (subst (λ c. (c == 32) ≡ true) (sym is) refl) (All-nil (λ c. (c == 32) ≡ true)));
          starts = λ out. absurd (false≢true (sym out ∙ inside));
        }))

solid_byte : (b : ℕ) → (b == 32) ≡ false → (b == 10) ≡ false → (b == 35) ≡ false → not (b == 32 || b == 10 || b == 35) ≡ true
solid_byte b no_space no_end no_comment = rw (no_space, no_end, no_comment) refl

token_head : (behind : Behind) (place : ℕ) (gap : List ℕ) (b : ℕ) (bs : List ℕ) (at indent : ℕ) (reading : Reading) (levels : Levels) (outcome : Found) → span_at at (b ∷ bs) ≡ outcome → (b == 32) ≡ false → (b == 10) ≡ false → (b == 35) ≡ false → AgreeHere behind place gap (b ∷ bs) at indent reading → opened_at at reading.line indent reading.stack (b ∷ bs) ≡ Ok levels → HeadPasses behind place gap (b ∷ bs) at levels (token_from at reading.line b outcome)
token_head behind place gap b bs at indent reading levels (Err e) is_span no_space no_end no_comment here is_opened = tt
token_head behind place gap b bs at indent reading levels (Ok span) is_span no_space no_end no_comment here is_opened =
    let solid : is_blank (b ∷ bs) ≡ false = subst (λ t. (t || (b == 35)) ≡ false) (sym no_end) no_comment in
    let within = subst (FoundWithin (b ∷ bs)) is_span (span_within at (b ∷ bs)) in
    let spelled = span_is_spelled at (b ∷ bs) span is_span in
    let stands = span_is_standing at (b ∷ bs) span is_span in
    token_passes behind place gap b bs at indent span.len span.kind reading levels here (solid_byte b no_space no_end no_comment) solid
    (record { begins = stands.begins; some = within.some; within = within.within; spelled = spelled.spelled; reaches = stands.reaches })
    (solid_opened at indent reading (b ∷ bs) levels solid is_opened)

-- the bytes of a comment
comment_text : (b : ℕ) (bs : List ℕ) → b ≡ 35 → (text : List ℕ) × (take (prefix_len is_printable (b ∷ bs)) (b ∷ bs) ≡ 35 ∷ text) × AllPass is_printable text
comment_text b bs is =
    let one : suc (prefix_len is_printable bs) ≡ 1 + prefix_len is_printable bs = omega arith in
    subst (λ c. (text : List ℕ) × (take (prefix_len is_printable (c ∷ bs)) (c ∷ bs) ≡ 35 ∷ text) × AllPass is_printable text) (sym is)
    (take (prefix_len is_printable bs) bs, ap (λ n. take n (35 ∷ bs)) (sym one), front_passes is_printable bs)

comment_passes : (behind : Behind) (place : ℕ) (gap : List ℕ) (b : ℕ) (bs : List ℕ) (at indent : ℕ) (reading : Reading) (levels : Levels) → b ≡ 35 → AgreeHere behind place gap (b ∷ bs) at indent reading → opened_at at reading.line indent reading.stack (b ∷ bs) ≡ Ok levels → HeadPasses behind place gap (b ∷ bs) at levels (comment_at at reading.line (b ∷ bs))
unfolding comment_at
comment_passes behind place gap b bs at indent reading levels is here is_opened =
    let len = prefix_len is_printable (b ∷ bs) in
    let text = comment_text b bs is in
    both (HeadPasses behind place gap (b ∷ bs) at levels) (ends_here (drop len (b ∷ bs))) (Ok (record { token = newline_at at reading.line; taken = len; next = ended reading.line })) (Err (BadByte (at + len)))
    (λ ends. ends_pass behind place gap (b ∷ bs) at indent len reading (ended reading.line) levels here is_opened (comment_end at len b text.0 bs is (prefix_len-le-length is_printable (b ∷ bs)) text.1 text.2 ends) refl refl)
    (λ _. tt)

head_passes : (behind : Behind) (place : ℕ) (gap first : List ℕ) (at indent : ℕ) (reading : Reading) (levels : Levels) → AgreeHere behind place gap first at indent reading → opened_at at reading.line indent reading.stack first ≡ Ok levels → HeadPasses behind place gap first at levels (head_at at reading.line first)
unfolding head_at
head_passes behind place gap [] at indent reading levels here is_opened =
    let total = length-append gap [] in
    let position = here.position in
    subst (λ (l : Levels). Passes behind place gap [] (l.given ++ []) 0 at (record { line = reading.line; stack = l.stack })) (blank_opened at indent reading [] levels refl is_opened)
    (stays behind place gap [] 0 at reading
    (record {
      inside = here.inside;
      brackets = here.brackets;
      levels = here.levels;
      found = here.found;
      begun = here.begun;
      falling = here.falling;
      position = omega (arith, total, position);
      is_gap = gap_append [] [] gap here.is_gap IsGap.none;
      spaces = λ h closed. subst AreSpaces (sym (append-nil gap)) (here.spaces h closed);
      starts = λ _. inr refl;
    }))
head_passes behind place gap (b ∷ bs) at indent reading levels here is_opened =
    let P : Result Head LexRefusal → Type 0 = HeadPasses behind place gap (b ∷ bs) at levels in
    both P (b == 32) (nothing 1 reading.line) _ (λ is. space_passes behind place gap b bs at indent reading levels (eqb-true b 32 is) here is_opened)
    (λ no_space. both P (b == 10) (Ok (record { token = newline_at at reading.line; taken = 1; next = next_line reading.line })) _
    (λ is. ends_pass behind place gap (b ∷ bs) at indent 1 reading (next_line reading.line) levels here is_opened (line_end at b bs (eqb-true b 10 is)) refl refl)
    (λ no_end. both P (b == 35) (comment_at at reading.line (b ∷ bs)) _ (λ is. comment_passes behind place gap b bs at indent reading levels (eqb-true b 35 is) here is_opened)
    (λ no_comment. token_head behind place gap b bs at indent reading levels (span_at at (b ∷ bs)) refl no_space no_end no_comment here is_opened)))

-- what stands behind the spaces that lead is passed
pub head_is_passed : (behind : Behind) (place : ℕ) (gap first : List ℕ) (at indent : ℕ) (reading : Reading) (levels : Levels) (head : Head) → AgreeHere behind place gap first at indent reading → opened_at at reading.line indent reading.stack first ≡ Ok levels → head_at at reading.line first ≡ Ok head → Passes behind place gap first (levels.given ++ option_to_list head.token) head.taken at (record { line = head.next; stack = levels.stack })
head_is_passed behind place gap first at indent reading levels head here is_opened is_head =
    subst (HeadPasses behind place gap first at levels) is_head (head_passes behind place gap first at indent reading levels here is_opened)
