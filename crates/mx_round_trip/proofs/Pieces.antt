-- One token of a line, and one blank.
use Rattle.std.proofs.Common.{◌≡◌, ℕ, ◌+◌, List, [], ◌∷◌, ◌++◌, Bool, false, ◌==◌, length, take, drop, refl, ap, ◌∙◌, Result, Ok, arith, add-zero, zero-add}
use Rattle.std.proofs.Math.Seq.{take-append_seam, drop-append_seam}
use Rattle.mx_lex.specs.Bytes.{first_passes}
use Rattle.mx_lex.specs.Spans.{found, span_at}
use Rattle.mx_lex.specs.Heads.{token_from, brackets_behind, head_at}
use Rattle.mx_lex.specs.Lines.{Levels, Indented, is_blank}
use Rattle.mx_lex.specs.Lexing.{Reading, Step, step_from, step_at, ◌>>=◌, tokens_before, tokens_from}
use Rattle.mx_lex.specs.declared.Token.{Token}
use Rattle.mx_lex.specs.declared.TokenKind.{TokenKind}
use Rattle.mx_lex.specs.declared.LexRefusal.{LexRefusal}
use Rattle.mx_lex.specs.declared.line.Phase.TheVariants.{Inside}
use Rattle.mx_lex.specs.declared.line.Line.{Line}
use Rattle.mx_lex.specs.declared.line.Head.{Head}
use Rattle.mx_lex.proofs.Cases.{both}
use Rattle.mx_lex.proofs.Loop.{after_step, tokens_turn}
use Rattle.mx_grammar.specs.Words.{word_by}
use Rattle.mx_round_trip.proofs.Goes.{Goes, Reads}

-- in a line that has given a token, with so many brackets open
abbrev pub inside : ℕ → ℕ → List ℕ → Reading
inside number brackets stack = record { line = record { number = number; phase = Inside; brackets = brackets }; stack = stack }

-- a byte that begins a token
pub record BeginsToken (b : ℕ) : Type 0 where
  pub space : (b == 32) ≡ false
  pub line_end : (b == 10) ≡ false
  pub comment : (b == 35) ≡ false

pub head_of_token : (at : ℕ) (line : Line) (b : ℕ) (bs : List ℕ) → BeginsToken b → head_at at line (b ∷ bs) ≡ token_from at line b (span_at at (b ∷ bs))
unfolding head_at
head_of_token at line b bs h = rw (h.space, h.line_end, h.comment) refl

-- what a head gives, with no indent before it
abbrev pub headed : List ℕ → Result Head LexRefusal → Result Step LexRefusal
headed stack outcome = outcome >>= λ head. Ok (step_from (record { given = []; stack = stack }) 0 head)

pub step_inside : (at number brackets : ℕ) (stack rest : List ℕ) → step_at at (inside number brackets stack) rest ≡ headed stack (head_at at (record { number = number; phase = Inside; brackets = brackets }) rest)
unfolding step_at
step_inside at number brackets stack rest =
    both (λ (opened : Indented). (opened >>= λ levels. head_at (at + 0) line rest >>= λ head. Ok (step_from levels 0 head)) ≡ headed stack (head_at at line rest)) (is_blank rest) (Ok levels) (Ok levels) (λ _. same) (λ _. same)
  where
    line : Line
    line = record { number = number; phase = Inside; brackets = brackets }

    levels : Levels
    levels = record { given = []; stack = stack }

    same : headed stack (head_at (at + 0) line rest) ≡ headed stack (head_at at line rest)
    same = ap (λ n. headed stack (head_at n line rest)) (add-zero at)

token_step : (kind : TokenKind) (at len b : ℕ) (bs : List ℕ) (number brackets : ℕ) (stack : List ℕ) → BeginsToken b → span_at at (b ∷ bs) ≡ found kind len
    → step_at at (inside number brackets stack) (b ∷ bs) ≡ Ok (record { given = record { kind = kind; at = at; len = len } ∷ []; taken = 0 + len; next = inside number (brackets_behind b brackets) stack })
token_step kind at len b bs number brackets stack begins span =
    let line : Line = record { number = number; phase = Inside; brackets = brackets } in
    step_inside at number brackets stack (b ∷ bs) ∙ ap (headed stack) (head_of_token at line b bs begins ∙ ap (token_from at line b) span)

pub token_goes : (kind : TokenKind) (b : ℕ) (bs front rest : List ℕ) (number brackets : ℕ) (stack : List ℕ) → BeginsToken b → span_at (length front) ((b ∷ bs) ++ rest) ≡ found kind (length (b ∷ bs))
    → Goes (inside number brackets stack) front (b ∷ bs) rest (word_by kind (b ∷ bs) ∷ []) (inside number (brackets_behind b brackets) stack)
token_goes kind b bs front rest number brackets stack begins span =
    let u : List ℕ = b ∷ bs in
    let at : ℕ = length front in
    let next : Reading = inside number (brackets_behind b brackets) stack in
    let token : Token = record { kind = kind; at = at; len = length u } in
    record {
      tokens = token ∷ [];
      lexed =
          tokens_turn (u ++ rest) at (inside number brackets stack) (omega arith)
          ∙ ap (after_step (u ++ rest) at) (token_step kind at (length u) b (bs ++ rest) number brackets stack begins span)
          ∙ ap (λ n. tokens_before (token ∷ []) (tokens_from (drop n (u ++ rest)) 0 (at + n) next)) (zero-add (length u))
          ∙ ap (λ l. tokens_before (token ∷ []) (tokens_from l 0 (at + length u) next)) (drop-append_seam u rest);
      words = ap (λ t. word_by kind t ∷ []) (ap (take (length u)) (drop-append_seam front (u ++ rest)) ∙ take-append_seam u rest);
    }

-- A token whose longest match is itself, where the rest begins with no byte that would go on with it.
pub reads_token : (F : ℕ → Bool) (kind : TokenKind) (b : ℕ) (bs : List ℕ) (number brackets : ℕ) (stack : List ℕ) → BeginsToken b
    → ((at : ℕ) (rest : List ℕ) → first_passes F rest ≡ false → span_at at ((b ∷ bs) ++ rest) ≡ found kind (length (b ∷ bs)))
    → Reads F (inside number brackets stack) (b ∷ bs) (word_by kind (b ∷ bs) ∷ []) (inside number (brackets_behind b brackets) stack)
reads_token F kind b bs number brackets stack begins span =
    record { goes = λ front rest stops. token_goes kind b bs front rest number brackets stack begins (span (length front) rest stops) }

space_step : (at number brackets : ℕ) (stack bs : List ℕ) → step_at at (inside number brackets stack) (32 ∷ bs) ≡ Ok (record { given = []; taken = 0 + 1; next = inside number brackets stack })
unfolding head_at
space_step at number brackets stack bs = step_inside at number brackets stack (32 ∷ bs)

pub reads_space : (F : ℕ → Bool) (number brackets : ℕ) (stack : List ℕ) → Reads F (inside number brackets stack) (32 ∷ []) [] (inside number brackets stack)
reads_space F number brackets stack = record {
  goes = λ front rest stops. record {
    tokens = [];
    lexed =
        tokens_turn (32 ∷ rest) (length front) (inside number brackets stack) (omega arith)
        ∙ ap (after_step (32 ∷ rest) (length front)) (space_step (length front) number brackets stack rest);
    words = refl;
  };
}
