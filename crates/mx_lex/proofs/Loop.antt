-- One turn of the lexer's loop, over the definition.
use Rattle.std.proofs.Common.{◌≡◌, ℕ, ◌+◌, ◌-◌, ◌<◌, ◌≤◌, zero, suc, List, [], ◌∷◌, ◌++◌, length, drop, reverse, refl, sym, ap, ◌∙◌, subst, append_assoc, add-zero, ltb, Result, Ok, Err, arith, length-drop}
use Rattle.std.proofs.Math.ListN.{drop_of_length-le}
use Rattle.std.proofs.lemmas.List.{drop-drop}
use Rattle.std.proofs.lemmas.Bool.{cond-false, le-ltb}
use Rattle.mx_lex.specs.declared.LexRefusal.TheVariants.{TooLong}
use Rattle.mx_lex.specs.Lexing.{Reading, Step, Tokens, step_at, tokens_before, tokens_from, closing_at, beginning, tokens_of}
use Rattle.mx_lex.specs.Stacks.{step_before}
use Rattle.mx_lex.specs.declared.Token.{Token}
use Rattle.mx_lex.specs.declared.line.Line.{Line}
use Rattle.mx_lex.specs.declared.LexRefusal.{LexRefusal}
use Rattle.mx_lex.proofs.StepBounds.{Bounded, StepBounded, step_bounded}

-- the bytes that belong to what was given are passed over
pub tokens_from_passed : (bytes : List ℕ) (passed at : ℕ) (reading : Reading) → passed ≤ length bytes → tokens_from bytes passed at reading ≡ tokens_from (drop passed bytes) 0 (at + passed) reading
unfolding tokens_from
tokens_from_passed [] zero at reading h = ap (λ n. tokens_from [] 0 n reading) (sym (add-zero at))
tokens_from_passed [] (suc passed) at reading h = absurd (omega arith)
tokens_from_passed (b ∷ bs) zero at reading h = ap (λ n. tokens_from (b ∷ bs) 0 n reading) (sym (add-zero at))
tokens_from_passed (b ∷ bs) (suc passed) at reading h =
    tokens_from_passed bs passed (at + 1) reading (omega arith) ∙ ap (λ n. tokens_from (drop passed bs) 0 n reading) (omega arith)

-- what a step says of the rest
abbrev pub after_step : List ℕ → ℕ → Result Step LexRefusal → Tokens
after_step rest at (Ok step) = tokens_before step.given (tokens_from (drop step.taken rest) 0 (at + step.taken) step.next)
after_step rest at (Err e) = Err e

abbrev after_first : List ℕ → ℕ → Result Step LexRefusal → Tokens
after_first bs at (Ok step) = tokens_before step.given (tokens_from bs (step.taken - 1) (at + 1) step.next)
after_first bs at (Err e) = Err e

pub drop_first : (taken b : ℕ) (bs : List ℕ) → 0 < taken → drop (taken - 1) bs ≡ drop taken (b ∷ bs)
drop_first zero b bs h = absurd (omega arith)
drop_first (suc k) b bs h = let e : suc k - 1 ≡ k = omega arith in ap (λ n. drop n bs) e

first_passed : (b : ℕ) (bs : List ℕ) (at : ℕ) (line : Line) (outcome : Result Step LexRefusal) → StepBounded line (b ∷ bs) outcome → after_first bs at outcome ≡ after_step (b ∷ bs) at outcome
first_passed b bs at line (Ok step) h =
    let some : 0 < step.taken = h.some (omega arith) in
    let within : step.taken - 1 ≤ length bs = omega (arith, h.within) in
    let place : at + 1 + (step.taken - 1) ≡ at + step.taken = omega arith in
    ap (tokens_before step.given) (tokens_from_passed bs (step.taken - 1) (at + 1) step.next within ∙ ap (λ n. tokens_from (drop (step.taken - 1) bs) 0 n step.next) place ∙ ap (λ r. tokens_from r 0 (at + step.taken) step.next) (drop_first step.taken b bs some))
first_passed b bs at line (Err e) h = refl

first_is : (b : ℕ) (bs : List ℕ) (at : ℕ) (reading : Reading) → tokens_from (b ∷ bs) 0 at reading ≡ after_first bs at (step_at at reading (b ∷ bs))
unfolding tokens_from
first_is b bs at reading = split (step_at at reading (b ∷ bs))
  where
    split : (outcome : Result Step LexRefusal) → elim outcome as (λ _. Tokens) [ Ok step ↦ tokens_before step.given (tokens_from bs (step.taken - 1) (at + 1) step.next) | Err e ↦ Err e ] ≡ after_first bs at outcome
    split (Ok step) = refl
    split (Err e) = refl

pub tokens_turn : (rest : List ℕ) (at : ℕ) (reading : Reading) → 0 < length rest → tokens_from rest 0 at reading ≡ after_step rest at (step_at at reading rest)
tokens_turn [] at reading h = absurd (omega arith)
tokens_turn (b ∷ bs) at reading h =
    first_is b bs at reading ∙ first_passed b bs at reading.line (step_at at reading (b ∷ bs)) (step_bounded at reading (b ∷ bs))

tokens_before_both : (front given : List Token) (outcome : Tokens) → tokens_before front (tokens_before given outcome) ≡ tokens_before (front ++ given) outcome
tokens_before_both front given (Ok tokens) = ap (λ ts. Ok ts) (sym (append_assoc front given tokens))
tokens_before_both front given (Err e) = refl

-- the tokens of the rest from a state of the loop on, behind those that were given
abbrev pub whole : List Token → List ℕ → ℕ → Reading → Tokens
whole front rest at reading = tokens_before front (tokens_from rest 0 at reading)

turn_by : (front : List Token) (rest : List ℕ) (at : ℕ) (outcome : Result Step LexRefusal) (went : Step) → step_before front outcome ≡ Ok went → tokens_before front (after_step rest at outcome) ≡ whole went.given (drop went.taken rest) (at + went.taken) went.next
turn_by front rest at (Ok step) went e =
    let same : record step { given = front ++ step.given } ≡ went = cc in
    let after = tokens_before_both front step.given (tokens_from (drop step.taken rest) 0 (at + step.taken) step.next) in
    after ∙ ap (λ (s : Step). whole s.given (drop s.taken rest) (at + s.taken) s.next) same
turn_by front rest at (Err f) went e = absurd cc

pub turn_kept : (front : List Token) (rest : List ℕ) (at : ℕ) (reading : Reading) (went : Step) → 0 < length rest → step_before front (step_at at reading rest) ≡ Ok went → whole front rest at reading ≡ whole went.given (drop went.taken rest) (at + went.taken) went.next
turn_kept front rest at reading went some e =
    ap (tokens_before front) (tokens_turn rest at reading some) ∙ turn_by front rest at (step_at at reading rest) went e

pub turn_failed : (front : List Token) (rest : List ℕ) (at : ℕ) (reading : Reading) (error : LexRefusal) → 0 < length rest → step_at at reading rest ≡ Err error → whole front rest at reading ≡ Err error
turn_failed front rest at reading error some e =
    ap (tokens_before front) (tokens_turn rest at reading some ∙ ap (after_step rest at) e)

bounded_by : (front : List Token) (line : Line) (rest : List ℕ) (outcome : Result Step LexRefusal) (went : Step) → StepBounded line rest outcome → step_before front outcome ≡ Ok went → Bounded line (length rest) went.taken went.next.line
bounded_by front line rest (Ok step) went h e =
    let same : record step { given = front ++ step.given } ≡ went = cc in
    subst (λ (s : Step). Bounded line (length rest) s.taken s.next.line) same h
bounded_by front line rest (Err f) went h e = absurd cc

pub turn_bounded : (front : List Token) (rest : List ℕ) (at : ℕ) (reading : Reading) (went : Step) → step_before front (step_at at reading rest) ≡ Ok went → Bounded reading.line (length rest) went.taken went.next.line
turn_bounded front rest at reading went e = bounded_by front reading.line rest (step_at at reading rest) went (step_bounded at reading rest) e

-- what the loop keeps: the tokens given, and those of the rest, are those of the source
pub record Reads (source : List ℕ) (tokens : List Token) (at : ℕ) (line : Line) (stack : List ℕ) : Type 0 where
  pub read : whole tokens (drop at source) at (record { line = line; stack = reverse stack }) ≡ tokens_from source 0 0 beginning
  pub within : at ≤ length source
  pub brackets : line.brackets ≤ at
  pub number : line.number ≤ at + 1

-- what a call of `step` answered for the rest is bounded
pub went_bounded : (rest : List ℕ) (front : List Token) (at : ℕ) (line : Line) (stack left : List ℕ) (tokens : List Token) (taken : ℕ) (next : Line) → step_before front (step_at at (record { line = line; stack = reverse stack }) rest) ≡ Ok (record { given = tokens; taken = taken; next = record { line = next; stack = reverse left } }) → Bounded line (length rest) taken next
went_bounded rest front at line stack left tokens taken next e =
    turn_bounded front rest at (record { line = line; stack = reverse stack }) (record { given = tokens; taken = taken; next = record { line = next; stack = reverse left } }) e

-- a turn of the loop: what a call of `step` answered for the rest
pub reads_more : (source rest : List ℕ) (front : List Token) (at : ℕ) (line : Line) (stack left : List ℕ) (tokens : List Token) (taken : ℕ) (next : Line) → Reads source front at line stack → rest ≡ drop at source → 0 < length rest → step_before front (step_at at (record { line = line; stack = reverse stack }) rest) ≡ Ok (record { given = tokens; taken = taken; next = record { line = next; stack = reverse left } }) → Reads source tokens (at + taken) next left
reads_more source rest front at line stack left tokens taken next reads is_rest some e =
    let reading : Reading = record { line = line; stack = reverse stack } in
    let after : Reading = record { line = next; stack = reverse left } in
    let went : Step = record { given = tokens; taken = taken; next = after } in
    let bounded = went_bounded rest front at line stack left tokens taken next e in
    let long = ap length is_rest ∙ length-drop at source in
    let remains : drop taken rest ≡ drop (at + taken) source = ap (drop taken) is_rest ∙ drop-drop taken at source in
    record {
      read = ap (λ r. whole tokens r (at + taken) after) (sym remains) ∙ sym (turn_kept front rest at reading went some e) ∙ ap (λ r. whole front r at reading) is_rest ∙ reads.read;
      within = omega (arith, bounded.within, reads.within);
      brackets = omega (arith, bounded.counts.brackets, reads.brackets);
      number = omega (arith, bounded.counts.number, reads.number);
    }

-- a call of `step` that answered a trouble
pub reads_failed : (source rest : List ℕ) (front : List Token) (at : ℕ) (line : Line) (stack : List ℕ) (error : LexRefusal) → Reads source front at line stack → rest ≡ drop at source → 0 < length rest → step_at at (record { line = line; stack = reverse stack }) rest ≡ Err error → tokens_from source 0 0 beginning ≡ Err error
reads_failed source rest front at line stack error reads is_rest some e =
    let reading : Reading = record { line = line; stack = reverse stack } in
    sym reads.read ∙ ap (λ r. whole front r at reading) (sym is_rest) ∙ turn_failed front rest at reading error some e

pub at_end : (at : ℕ) (reading : Reading) → tokens_from [] 0 at reading ≡ Ok (closing_at at reading)
unfolding tokens_from
at_end at reading = refl

-- the rest of a source that was read to its end gives what its end gives
pub reads_all : (source : List ℕ) (tokens : List Token) (at : ℕ) (line : Line) (stack : List ℕ) → Reads source tokens at line stack → length source ≤ at → tokens_from source 0 0 beginning ≡ Ok (tokens ++ closing_at at (record { line = line; stack = reverse stack }))
reads_all source tokens at line stack reads all =
    let reading : Reading = record { line = line; stack = reverse stack } in
    sym reads.read ∙ ap (λ r. whole tokens r at reading) (drop_of_length-le source all) ∙ ap (tokens_before tokens) (at_end at reading)

pub tokens_of_short : (source : List ℕ) → length source ≤ 65536 → tokens_of source ≡ tokens_from source 0 0 beginning
unfolding tokens_of
tokens_of_short source short = cond-false (ltb 65536 (length source)) (Err TooLong) (tokens_from source 0 0 beginning) (le-ltb 65536 (length source) short)
