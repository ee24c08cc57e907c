-- Operators and keywords with the spaces around them.
use Rattle.std.proofs.Common.{◌≡◌, ℕ, List, [], ◌∷◌, ◌++◌, Bool, true, false, ◌==◌, length, refl, subst}
use Rattle.std.specs.Prelude.{codes}
use Rattle.mx_lex.specs.Bytes.{is_opening, is_closing}
use Rattle.mx_lex.specs.Spans.{found, is_keyword, name_at, mark_at, span_at}
use Rattle.mx_lex.specs.Heads.{brackets_behind}
use Rattle.mx_lex.specs.declared.TokenKind.{TokenKind}
use Rattle.mx_lex.specs.declared.TokenKind.TheVariants.{Keyword, Mark}
use Rattle.mx_grammar.specs.declared.word.Word.{Word}
use Rattle.mx_grammar.specs.declared.word.Word.TheVariants.{Symbol}
use Rattle.mx_grammar.specs.declared.word.Symbol.TheVariants as symbol
use Rattle.mx_grammar.specs.Words.{word_by}
use Rattle.mx_round_trip.proofs.Goes.{Reads, both_go, then_reads, none, none_first}
use Rattle.mx_round_trip.proofs.Pieces.{inside, BeginsToken, token_goes, reads_space}
use Rattle.mx_round_trip.proofs.Plain.{is_plain, plain_both}
use Rattle.mx_round_trip.proofs.Flat.{Flat, flat_both}

-- a token that opens and closes no bracket
pub record IsOperator (b : ℕ) : Type 0 where
  begins : BeginsToken b
  opens : is_opening b ≡ false
  closes : is_closing b ≡ false

-- a token with a space behind it
pub token_space : (kind : TokenKind) (b : ℕ) (bs : List ℕ) → IsOperator b → is_plain (b ∷ bs) ≡ true → ((at : ℕ) (rest : List ℕ) → span_at at ((b ∷ bs) ++ 32 ∷ rest) ≡ found kind (length (b ∷ bs))) → Flat none ((b ∷ bs) ++ 32 ∷ []) (word_by kind (b ∷ bs) ∷ [])
token_space kind b bs h plain span = record {
  reads = λ number brackets stack.
      let count : brackets_behind b brackets ≡ brackets = rw (h.opens, h.closes) refl in
      let r = inside number brackets stack in
      let w = word_by kind (b ∷ bs) ∷ [] in
      subst (λ n. Reads none r ((b ∷ bs) ++ 32 ∷ []) w (inside number n stack)) count
      (record {
        goes = λ front rest _.
            both_go r (inside number (brackets_behind b brackets) stack) (inside number (brackets_behind b brackets) stack) front (b ∷ bs) (32 ∷ []) rest w []
            (token_goes kind b bs front (32 ∷ rest) number brackets stack h.begins (span (length front) rest))
            ((reads_space none number (brackets_behind b brackets) stack).goes (front ++ b ∷ bs) rest (none_first rest));
      });
  plain = plain_both (b ∷ bs) (32 ∷ []) plain refl;
}

-- a space before a text
pub flat_space : {F : ℕ → Bool} {u : List ℕ} {ws : List Word} → Flat F u ws → Flat F (32 ∷ u) ws
flat_space {F} {u} {ws} g = record { reads = λ number brackets stack. then_reads (reads_space none number brackets stack) (g.reads number brackets stack) (λ rest _. none_first (u ++ rest)); plain = g.plain }

pub is_operator : (b : ℕ) → (b == 32) ≡ false → (b == 10) ≡ false → (b == 35) ≡ false → is_opening b ≡ false → is_closing b ≡ false → IsOperator b
is_operator b s n c o d = record { begins = record { space = s; line_end = n; comment = c }; opens = o; closes = d }

pub mark : (b : ℕ) (bs : List ℕ) → IsOperator b → is_plain (b ∷ bs) ≡ true → ((at : ℕ) (rest : List ℕ) → span_at at ((b ∷ bs) ++ 32 ∷ rest) ≡ found Mark (length (b ∷ bs))) → Flat none (32 ∷ (b ∷ bs) ++ 32 ∷ []) (word_by Mark (b ∷ bs) ∷ [])
mark b bs h plain span = flat_space (token_space Mark b bs h plain span)

keyword : (b : ℕ) (bs : List ℕ) → IsOperator b → is_plain (b ∷ bs) ≡ true → ((at : ℕ) (rest : List ℕ) → span_at at ((b ∷ bs) ++ 32 ∷ rest) ≡ found Keyword (length (b ∷ bs))) → Flat none (32 ∷ (b ∷ bs) ++ 32 ∷ []) (word_by Keyword (b ∷ bs) ∷ [])
keyword b bs h plain span = flat_space (token_space Keyword b bs h plain span)

-- ---- marks

pub flat_plus : Flat none (codes " + ") (Symbol symbol.Plus ∷ [])
unfolding span_at mark_at
flat_plus = mark 43 [] (is_operator 43 refl refl refl refl refl) refl (λ at rest. refl)

pub flat_minus : Flat none (codes " - ") (Symbol symbol.Minus ∷ [])
unfolding span_at mark_at
flat_minus = mark 45 [] (is_operator 45 refl refl refl refl refl) refl (λ at rest. refl)

pub flat_times : Flat none (codes " * ") (Symbol symbol.Times ∷ [])
unfolding span_at mark_at
flat_times = mark 42 [] (is_operator 42 refl refl refl refl refl) refl (λ at rest. refl)

pub flat_over : Flat none (codes " / ") (Symbol symbol.Over ∷ [])
unfolding span_at mark_at
flat_over = mark 47 [] (is_operator 47 refl refl refl refl refl) refl (λ at rest. refl)

pub flat_floor : Flat none (codes " // ") (Symbol symbol.Floor ∷ [])
unfolding span_at mark_at
flat_floor = mark 47 (47 ∷ []) (is_operator 47 refl refl refl refl refl) refl (λ at rest. refl)

pub flat_rem : Flat none (codes " % ") (Symbol symbol.Rem ∷ [])
unfolding span_at mark_at
flat_rem = mark 37 [] (is_operator 37 refl refl refl refl refl) refl (λ at rest. refl)

pub flat_power : Flat none (codes " ** ") (Symbol symbol.Power ∷ [])
unfolding span_at mark_at
flat_power = mark 42 (42 ∷ []) (is_operator 42 refl refl refl refl refl) refl (λ at rest. refl)

pub flat_less : Flat none (codes " < ") (Symbol symbol.Lt ∷ [])
unfolding span_at mark_at
flat_less = mark 60 [] (is_operator 60 refl refl refl refl refl) refl (λ at rest. refl)

pub flat_at_most : Flat none (codes " <= ") (Symbol symbol.Le ∷ [])
unfolding span_at mark_at
flat_at_most = mark 60 (61 ∷ []) (is_operator 60 refl refl refl refl refl) refl (λ at rest. refl)

pub flat_greater : Flat none (codes " > ") (Symbol symbol.Gt ∷ [])
unfolding span_at mark_at
flat_greater = mark 62 [] (is_operator 62 refl refl refl refl refl) refl (λ at rest. refl)

pub flat_at_least : Flat none (codes " >= ") (Symbol symbol.Ge ∷ [])
unfolding span_at mark_at
flat_at_least = mark 62 (61 ∷ []) (is_operator 62 refl refl refl refl refl) refl (λ at rest. refl)

pub flat_equal : Flat none (codes " == ") (Symbol symbol.Eq ∷ [])
unfolding span_at mark_at
flat_equal = mark 61 (61 ∷ []) (is_operator 61 refl refl refl refl refl) refl (λ at rest. refl)

pub flat_unequal : Flat none (codes " != ") (Symbol symbol.Ne ∷ [])
unfolding span_at mark_at
flat_unequal = mark 33 (61 ∷ []) (is_operator 33 refl refl refl refl refl) refl (λ at rest. refl)

-- ---- keywords

pub flat_in : Flat none (codes " in ") (Symbol symbol.In ∷ [])
unfolding span_at name_at is_keyword
flat_in = keyword 105 (codes "n") (is_operator 105 refl refl refl refl refl) refl (λ at rest. refl)

pub flat_or : Flat none (codes " or ") (Symbol symbol.Or ∷ [])
unfolding span_at name_at is_keyword
flat_or = keyword 111 (codes "r") (is_operator 111 refl refl refl refl refl) refl (λ at rest. refl)

pub flat_and : Flat none (codes " and ") (Symbol symbol.And ∷ [])
unfolding span_at name_at is_keyword
flat_and = keyword 97 (codes "nd") (is_operator 97 refl refl refl refl refl) refl (λ at rest. refl)

pub flat_if : Flat none (codes " if ") (Symbol symbol.If ∷ [])
unfolding span_at name_at is_keyword
flat_if = keyword 105 (codes "f") (is_operator 105 refl refl refl refl refl) refl (λ at rest. refl)

pub flat_else : Flat none (codes " else ") (Symbol symbol.Else ∷ [])
unfolding span_at name_at is_keyword
flat_else = keyword 101 (codes "lse") (is_operator 101 refl refl refl refl refl) refl (λ at rest. refl)

pub flat_for : Flat none (codes " for ") (Symbol symbol.For ∷ [])
unfolding span_at name_at is_keyword
flat_for = keyword 102 (codes "or") (is_operator 102 refl refl refl refl refl) refl (λ at rest. refl)

-- `not` with a space behind it, and none before it
pub flat_not : Flat none (codes "not ") (Symbol symbol.Not ∷ [])
unfolding span_at name_at is_keyword
flat_not = token_space Keyword 110 (codes "ot") (is_operator 110 refl refl refl refl refl) refl (λ at rest. refl)

flat_is : Flat none (codes " is ") (Symbol symbol.Is ∷ [])
unfolding span_at name_at is_keyword
flat_is = keyword 105 (codes "s") (is_operator 105 refl refl refl refl refl) refl (λ at rest. refl)

pub flat_not_in : Flat none (codes " not in ") (Symbol symbol.Not ∷ Symbol symbol.In ∷ [])
unfolding span_at name_at is_keyword
flat_not_in = flat_space (flat_both flat_not (token_space Keyword 105 (codes "n") (is_operator 105 refl refl refl refl refl) refl (λ at rest. refl)) (λ rest _. none_first (codes "in " ++ rest)))

-- `is` and `is not` before what follows them
pub flat_is_before : {F : ℕ → Bool} {u : List ℕ} {ws : List Word} → Flat F u ws → Flat F (codes " is " ++ u) (Symbol symbol.Is ∷ ws)
flat_is_before {F} {u} g = flat_both flat_is g (λ rest _. none_first (u ++ rest))

pub flat_not_before : {F : ℕ → Bool} {u : List ℕ} {ws : List Word} → Flat F u ws → Flat F (codes "not " ++ u) (Symbol symbol.Not ∷ ws)
flat_not_before {F} {u} g = flat_both flat_not g (λ rest _. none_first (u ++ rest))
