-- The words and marks that statements are made of.
use Rattle.std.proofs.Common.{◌≡◌, ℕ, ◌+◌, ◌-◌, List, [], ◌∷◌, ◌++◌, Bool, false, refl, arith}
use Rattle.std.specs.Prelude.{codes}
use Rattle.mx_lex.specs.Bytes.{continues_name, first_passes}
use Rattle.mx_lex.specs.Spans.{found, is_keyword, name_at, mark_at, span_at}
use Rattle.mx_lex.specs.declared.TokenKind.TheVariants.{Keyword, Mark}
use Rattle.mx_grammar.specs.declared.word.Word.{Word}
use Rattle.mx_grammar.specs.declared.word.Word.TheVariants.{Symbol}
use Rattle.mx_grammar.specs.declared.word.Symbol.TheVariants as symbol
use Rattle.mx_round_trip.proofs.Goes.{Reads, then_reads, none, none_first}
use Rattle.mx_round_trip.proofs.Pieces.{inside, reads_token}
use Rattle.mx_round_trip.proofs.Spans.{name_span, is_equals}
use Rattle.mx_round_trip.proofs.Plain.{plain_both}
use Rattle.mx_round_trip.proofs.Flat.{Flat, flat_both}
use Rattle.mx_round_trip.proofs.Operators.{token_space, is_operator, mark}

-- ---- words at a line's beginning

pub flat_pass : Flat continues_name (codes "pass") (Symbol symbol.Pass ∷ [])
unfolding is_keyword
flat_pass = record { reads = λ number brackets stack. reads_token continues_name Keyword 112 (codes "ass") number brackets stack (record { space = refl; line_end = refl; comment = refl }) (λ at rest stops. name_span at 112 (codes "ass") rest refl refl stops); plain = refl }

pub flat_return : Flat continues_name (codes "return") (Symbol symbol.Return ∷ [])
unfolding is_keyword
flat_return = record { reads = λ number brackets stack. reads_token continues_name Keyword 114 (codes "eturn") number brackets stack (record { space = refl; line_end = refl; comment = refl }) (λ at rest stops. name_span at 114 (codes "eturn") rest refl refl stops); plain = refl }

pub flat_returns : Flat none (codes "return ") (Symbol symbol.Return ∷ [])
unfolding span_at name_at is_keyword
flat_returns = token_space Keyword 114 (codes "eturn") (is_operator 114 refl refl refl refl refl) refl (λ at rest. refl)

pub flat_each : Flat none (codes "for ") (Symbol symbol.For ∷ [])
unfolding span_at name_at is_keyword
flat_each = token_space Keyword 102 (codes "or") (is_operator 102 refl refl refl refl refl) refl (λ at rest. refl)

pub flat_where : Flat none (codes "if ") (Symbol symbol.If ∷ [])
unfolding span_at name_at is_keyword
flat_where = token_space Keyword 105 (codes "f") (is_operator 105 refl refl refl refl refl) refl (λ at rest. refl)

pub flat_elif : Flat none (codes "elif ") (Symbol symbol.Elif ∷ [])
unfolding span_at name_at is_keyword
flat_elif = token_space Keyword 101 (codes "lif") (is_operator 101 refl refl refl refl refl) refl (λ at rest. refl)

flat_otherwise : Flat continues_name (codes "else") (Symbol symbol.Else ∷ [])
unfolding is_keyword
flat_otherwise = record { reads = λ number brackets stack. reads_token continues_name Keyword 101 (codes "lse") number brackets stack (record { space = refl; line_end = refl; comment = refl }) (λ at rest stops. name_span at 101 (codes "lse") rest refl refl stops); plain = refl }

-- ---- marks

colon_span : (at : ℕ) (rest : List ℕ) → span_at at (58 ∷ rest) ≡ found Mark 1
unfolding span_at mark_at
colon_span at rest = refl

pub flat_colon : Flat none (codes ":") (Symbol symbol.Colon ∷ [])
flat_colon = record { reads = λ number brackets stack. reads_token none Mark 58 [] number brackets stack (record { space = refl; line_end = refl; comment = refl }) (λ at rest _. colon_span at rest); plain = refl }

pub flat_else_colon : Flat none (codes "else:") (Symbol symbol.Else ∷ Symbol symbol.Colon ∷ [])
flat_else_colon = flat_both flat_otherwise flat_colon (λ rest _. refl)

pub flat_colon_space : Flat none (codes ": ") (Symbol symbol.Colon ∷ [])
unfolding span_at mark_at
flat_colon_space = token_space Mark 58 [] (is_operator 58 refl refl refl refl refl) refl (λ at rest. refl)

pub flat_assign : Flat none (codes " = ") (Symbol symbol.Assign ∷ [])
unfolding span_at mark_at
flat_assign = mark 61 [] (is_operator 61 refl refl refl refl refl) refl (λ at rest. refl)

pub flat_add : Flat none (codes " += ") (Symbol symbol.PlusAssign ∷ [])
unfolding span_at mark_at
flat_add = mark 43 (61 ∷ []) (is_operator 43 refl refl refl refl refl) refl (λ at rest. refl)

pub flat_sub : Flat none (codes " -= ") (Symbol symbol.MinusAssign ∷ [])
unfolding span_at mark_at
flat_sub = mark 45 (61 ∷ []) (is_operator 45 refl refl refl refl refl) refl (λ at rest. refl)

pub flat_mul : Flat none (codes " *= ") (Symbol symbol.TimesAssign ∷ [])
unfolding span_at mark_at
flat_mul = mark 42 (61 ∷ []) (is_operator 42 refl refl refl refl refl) refl (λ at rest. refl)

equals_span : (at : ℕ) (rest : List ℕ) → first_passes is_equals rest ≡ false → span_at at (61 ∷ rest) ≡ found Mark 1
unfolding span_at mark_at
equals_span at [] h = refl
equals_span at (b ∷ bs) h = rw h refl

-- `=` with no space behind it
pub flat_equals : Flat is_equals (61 ∷ []) (Symbol symbol.Assign ∷ [])
flat_equals = record { reads = λ number brackets stack. reads_token is_equals Mark 61 [] number brackets stack (record { space = refl; line_end = refl; comment = refl }) (λ at rest stops. equals_span at rest stops); plain = refl }

-- ---- curly brackets

open_span : (at : ℕ) (rest : List ℕ) → span_at at (123 ∷ rest) ≡ found Mark 1
unfolding span_at mark_at
open_span at rest = refl

close_span : (at : ℕ) (rest : List ℕ) → span_at at (125 ∷ rest) ≡ found Mark 1
unfolding span_at mark_at
close_span at rest = refl

reads_open : (number brackets : ℕ) (stack : List ℕ) → Reads none (inside number brackets stack) (123 ∷ []) (Symbol symbol.OpenCurly ∷ []) (inside number (brackets + 1) stack)
reads_open number brackets stack = reads_token none Mark 123 [] number brackets stack (record { space = refl; line_end = refl; comment = refl }) (λ at rest _. open_span at rest)

reads_close : (number brackets : ℕ) (stack : List ℕ) → Reads none (inside number (brackets + 1) stack) (125 ∷ []) (Symbol symbol.CloseCurly ∷ []) (inside number brackets stack)
reads_close number brackets stack =
    let count : brackets + 1 - 1 ≡ brackets = omega arith in
    rw count at (reads_token none Mark 125 [] number (brackets + 1) stack (record { space = refl; line_end = refl; comment = refl }) (λ at rest _. close_span at rest))

-- a text in curly brackets
pub flat_curly : {F : ℕ → Bool} {u : List ℕ} {ws : List Word} → Flat F u ws → F 125 ≡ false → Flat none (123 ∷ u ++ 125 ∷ []) (Symbol symbol.OpenCurly ∷ ws ++ Symbol symbol.CloseCurly ∷ [])
flat_curly {F} {u} {ws} g stops = record {
  reads = λ number brackets stack.
      then_reads (reads_open number brackets stack)
      (then_reads (g.reads number (brackets + 1) stack) (reads_close number brackets stack) (λ rest _. stops))
      (λ rest _. none_first ((u ++ 125 ∷ []) ++ rest));
  plain = plain_both u (125 ∷ []) g.plain refl;
}
