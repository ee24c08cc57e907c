-- What holds at the end of a source and is kept by each step holds of its tokens; and what a step gives.
use Rattle.std.proofs.Common.{◌≡◌, ℕ, ◌+◌, ◌<◌, ◌≤◌, zero, suc, List, [], ◌∷◌, ◌++◌, ltb, ◌==◌, length, drop, refl, sym, ◌∙◌, subst, ◌⊎◌, inl, inr, Option, None, Some, Result, Ok, Err, arith, length-drop}
use Rattle.std.specs.Prelude.{IfOk}
use Rattle.std.specs.List.{prefix_len}
use Rattle.mx_lex.specs.Bytes.{is_printable}
use Rattle.mx_lex.specs.Spans.{Found, span_at}
use Rattle.mx_lex.specs.Heads.{empty_token, ends_line, ended, next_line, newline_at, nothing, ends_here, comment_at, token_from, head_at}
use Rattle.mx_lex.specs.Lines.{Levels, Indented, given_before, dedented, indented, line_indented, is_blank, lead, opened_at}
use Rattle.mx_lex.specs.Lexing.{Reading, Step, Tokens, step_from, step_at, ◌>>=◌, tokens_before, tokens_from, closing_at}
use Rattle.mx_lex.specs.declared.Token.{Token}
use Rattle.mx_lex.specs.declared.TokenKind.TheVariants.{Newline, Indent, Dedent}
use Rattle.mx_lex.specs.declared.LexRefusal.{LexRefusal}
use Rattle.mx_lex.specs.declared.LexRefusal.TheVariants.{BadByte, BadIndent}
use Rattle.mx_lex.specs.declared.line.Phase.{Phase}
use Rattle.mx_lex.specs.declared.line.Phase.TheVariants.{BeforeFirst, AtStart, Inside}
use Rattle.mx_lex.specs.declared.line.Line.{Line}
use Rattle.mx_lex.specs.declared.line.Head.{Head}
use Rattle.mx_lex.specs.declared.spans.Span.{Span}
use Rattle.mx_lex.proofs.Cases.{both}
use Rattle.mx_lex.proofs.StepBounds.{Bounded, StepBounded, step_bounded}
use Rattle.mx_lex.proofs.Loop.{after_step, tokens_turn, at_end}

pub step_is_bounded : (at : ℕ) (reading : Reading) (rest : List ℕ) (step : Step) → step_at at reading rest ≡ Ok step → Bounded reading.line (length rest) step.taken step.next.line
step_is_bounded at reading rest step e = subst (StepBounded reading.line rest) e (step_bounded at reading rest)

-- a list before others that were given
split_before : (given : List Token) (outcome : Tokens) (tokens : List Token) → tokens_before given outcome ≡ Ok tokens → (behind : List Token) × (outcome ≡ Ok behind) × (given ++ behind ≡ tokens)
split_before given (Ok behind) tokens e = (behind, refl, cc)
split_before given (Err f) tokens e = absurd cc

module _ (Holds : ℕ → List ℕ → Reading → List Token → Type 0) (closed : (at : ℕ) (reading : Reading) → Holds at [] reading (closing_at at reading)) (kept : (at : ℕ) (rest : List ℕ) (reading : Reading) (step : Step) (tokens : List Token) → 0 < length rest → step_at at reading rest ≡ Ok step → Holds (at + step.taken) (drop step.taken rest) step.next tokens → Holds at rest reading (step.given ++ tokens)) where
  by_steps_within : (left : ℕ) (rest : List ℕ) (at : ℕ) (reading : Reading) (tokens : List Token) → length rest ≤ left → tokens_from rest 0 at reading ≡ Ok tokens → Holds at rest reading tokens
  by_steps_within left [] at reading tokens h e =
      let same : closing_at at reading ≡ tokens = let f = sym (at_end at reading) ∙ e in cc in
      subst (Holds at [] reading) same (closed at reading)
  by_steps_within zero (b ∷ bs) at reading tokens h e = absurd (omega arith)
  by_steps_within (suc left) (b ∷ bs) at reading tokens h e =
      go (step_at at reading (b ∷ bs)) refl (sym (tokens_turn (b ∷ bs) at reading (omega arith)) ∙ e)
      (λ step behind shorter is. by_steps_within left (drop step.taken (b ∷ bs)) (at + step.taken) step.next behind shorter is)
    where
      go : (outcome : Result Step LexRefusal) → step_at at reading (b ∷ bs) ≡ outcome → after_step (b ∷ bs) at outcome ≡ Ok tokens → ((step : Step) (behind : List Token) → length (drop step.taken (b ∷ bs)) ≤ left → tokens_from (drop step.taken (b ∷ bs)) 0 (at + step.taken) step.next ≡ Ok behind → Holds (at + step.taken) (drop step.taken (b ∷ bs)) step.next behind) → Holds at (b ∷ bs) reading tokens
      go (Ok step) is_step after recurs =
          let bounded = step_is_bounded at reading (b ∷ bs) step is_step in
          let some : 0 < step.taken = bounded.some (omega arith) in
          let parts = split_before step.given (tokens_from (drop step.taken (b ∷ bs)) 0 (at + step.taken) step.next) tokens after in
          let shorter : length (drop step.taken (b ∷ bs)) ≤ left = omega (arith, length-drop step.taken (b ∷ bs)) in
          subst (Holds at (b ∷ bs) reading) parts.2 (kept at (b ∷ bs) reading step parts.0 (omega arith) is_step (recurs step parts.0 shorter parts.1))
      go (Err f) is_step after recurs = absurd cc

  pub by_steps : (rest : List ℕ) (at : ℕ) (reading : Reading) (tokens : List Token) → tokens_from rest 0 at reading ≡ Ok tokens → Holds at rest reading tokens
  by_steps rest at reading tokens e = by_steps_within (length rest) rest at reading tokens (omega arith) e

-- what stands at a place gives: nothing, NEWLINE, or the token of the span that begins there
pub data IsHeadToken (at : ℕ) (rest : List ℕ) (taken : ℕ) : Option Token → Type 0 where
  none : IsHeadToken at rest taken None
  newline : IsHeadToken at rest taken (Some (empty_token Newline at))
  token : (found : Span) → span_at at rest ≡ Ok found → taken ≡ found.len → IsHeadToken at rest taken (Some (record { kind = found.kind; at = at; len = found.len }))

abbrev HeadGives : ℕ → List ℕ → Result Head LexRefusal → Type 0
HeadGives at rest outcome = IfOk outcome (λ head. IsHeadToken at rest head.taken head.token)

newline_gives : (at : ℕ) (rest : List ℕ) (taken : ℕ) (line : Line) → IsHeadToken at rest taken (newline_at at line)
newline_gives at rest taken line = both (IsHeadToken at rest taken) (ends_line line) (Some (empty_token Newline at)) None (λ _. IsHeadToken.newline) (λ _. IsHeadToken.none)

token_gives : (at : ℕ) (line : Line) (b : ℕ) (rest : List ℕ) (outcome : Found) → span_at at rest ≡ outcome → HeadGives at rest (token_from at line b outcome)
token_gives at line b rest (Ok span) e = IsHeadToken.token span e refl
token_gives at line b rest (Err f) e = tt

comment_gives : (at : ℕ) (line : Line) (rest : List ℕ) → HeadGives at rest (comment_at at line rest)
unfolding comment_at
comment_gives at line rest =
    let len = prefix_len is_printable rest in
    both (HeadGives at rest) (ends_here (drop len rest)) (Ok (record { token = newline_at at line; taken = len; next = ended line })) (Err (BadByte (at + len))) (λ _. newline_gives at rest len line) (λ _. tt)

head_gives_all : (at : ℕ) (line : Line) (rest : List ℕ) → HeadGives at rest (head_at at line rest)
unfolding head_at
head_gives_all at line [] = IsHeadToken.none
head_gives_all at line (b ∷ bs) =
    let P : Result Head LexRefusal → Type 0 = HeadGives at (b ∷ bs) in
    both P (b == 32) (nothing 1 line) _ (λ _. IsHeadToken.none)
    (λ _. both P (b == 10) (Ok (record { token = newline_at at line; taken = 1; next = next_line line })) _ (λ _. newline_gives at (b ∷ bs) 1 line)
    (λ _. both P (b == 35) (comment_at at line (b ∷ bs)) _ (λ _. comment_gives at line (b ∷ bs))
    (λ _. token_gives at line b (b ∷ bs) (span_at at (b ∷ bs)) refl)))

-- an INDENT or a DEDENT at this place
abbrev pub IsBlock : ℕ → Token → Type 0
IsBlock at t = (t ≡ empty_token Indent at) ⊎ (t ≡ empty_token Dedent at)

abbrev pub AreBlocks : ℕ → List Token → Type 0
AreBlocks at [] = Unit {0}
AreBlocks at (t ∷ ts) = IsBlock at t × AreBlocks at ts

abbrev GivesBlocks : ℕ → Indented → Type 0
GivesBlocks at outcome = IfOk outcome (λ levels. AreBlocks at levels.given)

dedent_before : (at : ℕ) (outcome : Indented) → GivesBlocks at outcome → GivesBlocks at (given_before (empty_token Dedent at ∷ []) outcome)
dedent_before at (Ok levels) h = (inr refl, h)
dedent_before at (Err e) h = tt

dedented_blocks : (at line indent : ℕ) (stack : List ℕ) → GivesBlocks at (dedented at line indent stack)
dedented_blocks at line indent [] = tt
dedented_blocks at line indent (top ∷ below) =
    both (GivesBlocks at) (ltb indent top) (given_before (empty_token Dedent at ∷ []) (dedented at line indent below)) _ (λ _. dedent_before at (dedented at line indent below) (dedented_blocks at line indent below))
    (λ _. both (GivesBlocks at) (indent == top) (Ok (record { given = []; stack = top ∷ below })) (Err (BadIndent line)) (λ _. tt) (λ _. tt))

indented_blocks : (at line indent : ℕ) (stack : List ℕ) → GivesBlocks at (indented at line indent stack)
indented_blocks at line indent [] = tt
indented_blocks at line indent (top ∷ below) =
    both (GivesBlocks at) (ltb top indent) (Ok (record { given = empty_token Indent at ∷ []; stack = indent ∷ top ∷ below })) (dedented at line indent (top ∷ below))
    (λ _. (inl refl, tt)) (λ _. dedented_blocks at line indent (top ∷ below))

line_blocks : (phase : Phase) (at line indent : ℕ) (stack : List ℕ) → GivesBlocks at (line_indented phase at line indent stack)
line_blocks BeforeFirst at line indent stack = both (GivesBlocks at) (indent == 0) (Ok (record { given = []; stack = stack })) (Err (BadIndent line)) (λ _. tt) (λ _. tt)
line_blocks AtStart at line indent stack = indented_blocks at line indent stack
line_blocks Inside at line indent stack = tt

opened_blocks : (at : ℕ) (line : Line) (indent : ℕ) (stack first : List ℕ) → GivesBlocks at (opened_at at line indent stack first)
opened_blocks at line indent stack first = both (GivesBlocks at) (is_blank first) (Ok (record { given = []; stack = stack })) (line_indented line.phase at line.number indent stack) (λ _. tt) (λ _. line_blocks line.phase at line.number indent stack)

-- a step: the indent of a line that begins, and what stands behind its leading spaces
pub record Opens (at : ℕ) (reading : Reading) (rest : List ℕ) (step : Step) : Type 0 where
  pub levels : Levels
  pub head : Head
  pub is_opened : opened_at (at + lead reading.line rest) reading.line (lead reading.line rest) reading.stack (drop (lead reading.line rest) rest) ≡ Ok levels
  pub is_head : head_at (at + lead reading.line rest) reading.line (drop (lead reading.line rest) rest) ≡ Ok head
  pub is_step : step_from levels (lead reading.line rest) head ≡ step
  pub blocks : AreBlocks (at + lead reading.line rest) levels.given
  pub token : IsHeadToken (at + lead reading.line rest) (drop (lead reading.line rest) rest) head.taken head.token

pub step_opens : (at : ℕ) (reading : Reading) (rest : List ℕ) (step : Step) → step_at at reading rest ≡ Ok step → Opens at reading rest step
unfolding step_at
step_opens at reading rest step e = go (opened_at place line spaces reading.stack first) refl (head_at place line first) refl e
  where
    line : Line
    line = reading.line

    spaces : ℕ
    spaces = lead line rest

    place : ℕ
    place = at + spaces

    first : List ℕ
    first = drop spaces rest

    go : (opened : Indented) → opened_at place line spaces reading.stack first ≡ opened → (here : Result Head LexRefusal) → head_at place line first ≡ here → (opened >>= λ levels. here >>= λ head. Ok (step_from levels spaces head)) ≡ Ok step → Opens at reading rest step
    go (Ok levels) is_opened (Ok head) is_head is =
        record {
          levels = levels;
          head = head;
          is_opened = is_opened;
          is_head = is_head;
          is_step = cc;
          blocks = subst (GivesBlocks place) is_opened (opened_blocks place line spaces reading.stack first);
          token = subst (HeadGives place first) is_head (head_gives_all place line first);
        }
    go (Ok levels) is_opened (Err f) is_head is = absurd cc
    go (Err f) is_opened here is_head is = absurd cc
