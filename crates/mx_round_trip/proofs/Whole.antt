-- A whole text of one line.
use Rattle.std.proofs.Common.{◌≡◌, ℕ, ◌+◌, ◌≤◌, List, [], ◌∷◌, ◌++◌, Bool, true, false, ◌==◌, ◌&&◌, not, length, refl, sym, ap, ◌∙◌, append-nil, Ok, Err, arith}
use Rattle.std.proofs.lemmas.List.{map-append}
use Rattle.std.proofs.lemmas.Bool.{and_parts}
use Rattle.mx_lex.specs.Bytes.{first_passes}
use Rattle.mx_lex.specs.Spans.{Found, span_at}
use Rattle.mx_lex.specs.Heads.{empty_token, token_from, head_at}
use Rattle.mx_lex.specs.Lines.{Levels, Indented, is_blank}
use Rattle.mx_lex.specs.Lexing.{Reading, step_from, step_at, ◌>>=◌, closing_at, tokens_before, tokens_from, beginning, tokens_of}
use Rattle.mx_lex.specs.declared.Token.{Token}
use Rattle.mx_lex.specs.declared.TokenKind.TheVariants as kind
use Rattle.mx_lex.specs.declared.line.Phase.TheVariants.{BeforeFirst, Inside}
use Rattle.mx_lex.specs.declared.line.Line.{Line}
use Rattle.mx_lex.proofs.Cases.{both}
use Rattle.mx_lex.proofs.Loop.{after_step, tokens_turn, at_end, tokens_of_short}
use Rattle.mx_grammar.specs.declared.word.Word.{Word}
use Rattle.mx_grammar.specs.declared.word.Word.TheVariants.{Symbol}
use Rattle.mx_grammar.specs.declared.word.Symbol.TheVariants as symbol
use Rattle.mx_grammar.specs.Spelling.{words_of}
use Rattle.mx_grammar.specs.Words.{word_of}
use Rattle.mx_round_trip.proofs.Goes.{Goes}
use Rattle.mx_round_trip.proofs.Pieces.{inside, BeginsToken, headed, step_inside, head_of_token}
use Rattle.mx_round_trip.proofs.Flat.{Flat}
use Rattle.mx_round_trip.proofs.Printed.{starts}

first_line : Line
first_line = record { number = 1; phase = BeforeFirst; brackets = 0 }

inner_line : Line
inner_line = record { number = 1; phase = Inside; brackets = 0 }

opened_first : (b : ℕ) (bs : List ℕ) → BeginsToken b → step_at 0 beginning (b ∷ bs) ≡ headed (0 ∷ []) (head_at 0 first_line (b ∷ bs))
unfolding step_at beginning first_line
opened_first b bs h =
    let levels : Levels = record { given = []; stack = 0 ∷ [] } in
    rw h.space
    (both (λ (opened : Indented). (opened >>= λ l. head_at 0 first_line (b ∷ bs) >>= λ head. Ok (step_from l 0 head)) ≡ headed (0 ∷ []) (head_at 0 first_line (b ∷ bs))) (is_blank (b ∷ bs)) (Ok levels) (Ok levels) (λ _. refl) (λ _. refl))

token_of_phase : (b : ℕ) (outcome : Found) → token_from 0 first_line b outcome ≡ token_from 0 inner_line b outcome
unfolding first_line inner_line
token_of_phase b (Ok span) = refl
token_of_phase b (Err e) = refl

step_first : (b : ℕ) (bs : List ℕ) → BeginsToken b → step_at 0 beginning (b ∷ bs) ≡ step_at 0 (inside 1 0 (0 ∷ [])) (b ∷ bs)
unfolding inner_line
step_first b bs h =
    opened_first b bs h
    ∙ ap (headed (0 ∷ [])) (head_of_token 0 first_line b bs h ∙ token_of_phase b (span_at 0 (b ∷ bs)) ∙ sym (head_of_token 0 inner_line b bs h))
    ∙ sym (step_inside 0 1 0 (0 ∷ []) (b ∷ bs))

-- a text that begins with a token is read as if its line had given one
from_inside : (b : ℕ) (bs : List ℕ) → BeginsToken b → tokens_from (b ∷ bs) 0 0 beginning ≡ tokens_from (b ∷ bs) 0 0 (inside 1 0 (0 ∷ []))
from_inside b bs h = tokens_turn (b ∷ bs) 0 beginning (omega arith) ∙ ap (after_step (b ∷ bs) 0) (step_first b bs h) ∙ sym (tokens_turn (b ∷ bs) 0 (inside 1 0 (0 ∷ [])) (omega arith))

pub begins_token : (b : ℕ) → starts b ≡ true → BeginsToken b
begins_token b h =
    let p = and_parts (not (b == 32) && not (b == 10)) (not (b == 35)) h in
    let q = and_parts (not (b == 32)) (not (b == 10)) p.0 in
    record { space = not_is (b == 32) q.0; line_end = not_is (b == 10) q.1; comment = not_is (b == 35) p.1 }
  where
    not_is : (x : Bool) → not x ≡ true → x ≡ false
    not_is true e = absurd cc
    not_is false e = refl

pub from_inside_all : (text : List ℕ) → first_passes starts text ≡ true → tokens_from text 0 0 beginning ≡ tokens_from text 0 0 (inside 1 0 (0 ∷ []))
from_inside_all [] h = absurd cc
from_inside_all (b ∷ bs) h = from_inside b bs (begins_token b h)

abbrev ending : ℕ → List Token
ending at = empty_token kind.Newline at ∷ empty_token kind.End at ∷ []

closed_line : (at : ℕ) → closing_at at (inside 1 0 (0 ∷ [])) ≡ ending at
unfolding closing_at
closed_line at = refl

-- the tokens of a whole text, and what they say
pub record Lexed (text : List ℕ) (ws : List Word) : Type 0 where
  pub tokens : List Token
  pub lexed : tokens_of text ≡ Ok tokens
  pub words : words_of text tokens ≡ ws ++ Symbol symbol.Newline ∷ Symbol symbol.End ∷ []

pub whole_line : {F : ℕ → Bool} (text : List ℕ) (ws : List Word) → Flat F text ws → first_passes starts text ≡ true → length text ≤ 65536 → Lexed text ws
whole_line {F} text ws flat begins short =
    let r : Reading = inside 1 0 (0 ∷ []) in
    let g : Goes r [] text [] ws r = (flat.reads 1 0 (0 ∷ [])).goes [] [] refl in
    let at : ℕ = 0 + length text in
    let all : text ++ [] ≡ text = append-nil text in
    let given : words_of text g.tokens ≡ ws = ap (λ l. words_of l g.tokens) (sym all) ∙ g.words in
    record {
      tokens = g.tokens ++ ending at;
      lexed =
          tokens_of_short text short ∙ from_inside_all text begins ∙ ap (λ l. tokens_from l 0 0 r) (sym all) ∙ g.lexed
          ∙ ap (tokens_before g.tokens) (at_end at r ∙ ap (λ l. Ok l) (closed_line at));
      words = map-append (word_of text) g.tokens (ending at) ∙ ap (λ l. l ++ Symbol symbol.Newline ∷ Symbol symbol.End ∷ []) given;
    }
