-- A space inside a line is read as every other byte is.
use Rattle.std.proofs.Common.{◌≡◌, ℕ, List, [], ◌∷◌, true, refl, sym, ap, ◌∙◌, subst, append-nil, Result, Ok}
use Rattle.std.proofs.lemmas.Bool.{eqb-true}
use Rattle.mx_lex.specs.Heads.{head_at}
use Rattle.mx_lex.specs.Gaps.{is_gap}
use Rattle.mx_lex.specs.Lexing.{Reading, Step, step_at}
use Rattle.mx_lex.specs.Stacks.{step_before}
use Rattle.mx_lex.specs.declared.Token.{Token}
use Rattle.mx_lex.specs.declared.LexRefusal.{LexRefusal}
use Rattle.mx_lex.specs.declared.line.Phase.{Phase}
use Rattle.mx_lex.specs.declared.line.Phase.TheVariants.{BeforeFirst, AtStart, Inside}
use Rattle.mx_lex.specs.declared.line.Line.{Line}

-- the state before a space and behind it
abbrev reading_of : ℕ → Phase → ℕ → List ℕ → Reading
reading_of number phase brackets stack = record { line = record { number = number; phase = phase; brackets = brackets }; stack = stack }

abbrev passed : Reading → Result Step LexRefusal
passed reading = Ok (record { given = []; taken = 1; next = reading })

gap_in : (at number : ℕ) (phase : Phase) (brackets : ℕ) (stack rest : List ℕ) → is_gap (record { number = number; phase = phase; brackets = brackets }) rest ≡ true → step_at at (reading_of number phase brackets stack) rest ≡ passed (reading_of number phase brackets stack)
unfolding step_at head_at
gap_in at number Inside brackets stack (b ∷ bs) h =
    subst (λ c. step_at at (reading_of number Inside brackets stack) (c ∷ bs) ≡ passed (reading_of number Inside brackets stack)) (sym (eqb-true b 32 h)) refl
gap_in at number Inside brackets stack [] h = absurd cc
gap_in at number BeforeFirst brackets stack (b ∷ bs) h = absurd cc
gap_in at number BeforeFirst brackets stack [] h = absurd cc
gap_in at number AtStart brackets stack (b ∷ bs) h = absurd cc
gap_in at number AtStart brackets stack [] h = absurd cc

pub gap_advances : (front : List Token) (at : ℕ) (line : Line) (stack rest : List ℕ) → is_gap line rest ≡ true → step_before front (step_at at (record { line = line; stack = stack }) rest) ≡ Ok (record { given = front; taken = 1; next = record { line = line; stack = stack } })
gap_advances front at line stack rest h =
    ap (step_before front) (gap_in at line.number line.phase line.brackets stack rest h) ∙ ap (λ given. Ok (record { given = given; taken = 1; next = record { line = line; stack = stack } })) (append-nil front)
