-- Where a line begins: its indent against the levels that are open.
use Rattle.std.specs.Prelude.{ℕ, Bool, true, ◌||◌, ◌==◌, nat_lt, List, [], ◌∷◌, ◌++◌, if◌then◌else◌, Result, Ok, Err}
use Rattle.std.specs.List.{prefix_len}
use Rattle.mx_lex.specs.Heads.{empty_token, is_inside}
use Rattle.mx_lex.specs.declared.Token.{Token}
use Rattle.mx_lex.specs.declared.TokenKind.TheVariants.{Indent, Dedent}
use Rattle.mx_lex.specs.declared.LexRefusal.{LexRefusal}
use Rattle.mx_lex.specs.declared.LexRefusal.TheVariants.{BadIndent}
use Rattle.mx_lex.specs.declared.line.Phase.{Phase}
use Rattle.mx_lex.specs.declared.line.Phase.TheVariants.{BeforeFirst, AtStart, Inside}
use Rattle.mx_lex.specs.declared.line.Line.{Line}

-- tokens, and the stack of indents behind them, the innermost first
pub record Levels : Type 0 where
  pub given : List Token
  pub stack : List ℕ

abbrev pub Indented : Type 0
Indented = Result Levels LexRefusal

abbrev pub given_before : List Token → Indented → Indented
given_before front (Ok levels) = Ok (record { given = front ++ levels.given; stack = levels.stack })
given_before front (Err e) = Err e

-- pops and gives one DEDENT each down to this indent, which must then be on the top
abbrev pub dedented : ℕ → ℕ → ℕ → List ℕ → Indented
dedented at line indent [] = Err (BadIndent line)
dedented at line indent (top ∷ below) =
    if nat_lt indent top then given_before (empty_token Dedent at ∷ []) (dedented at line indent below)
    else (if indent == top then Ok (record { given = []; stack = top ∷ below })
    else Err (BadIndent line))

-- a greater indent pushes itself and gives INDENT
abbrev pub indented : ℕ → ℕ → ℕ → List ℕ → Indented
indented at line indent [] = Err (BadIndent line)
indented at line indent (top ∷ below) =
    if nat_lt top indent then Ok (record { given = empty_token Indent at ∷ []; stack = indent ∷ top ∷ below })
    else dedented at line indent (top ∷ below)

-- the first line that is not blank must have indent 0
abbrev pub first_indented : ℕ → ℕ → List ℕ → Indented
first_indented line indent stack = if indent == 0 then Ok (record { given = []; stack = stack }) else Err (BadIndent line)

abbrev pub line_indented : Phase → ℕ → ℕ → ℕ → List ℕ → Indented
line_indented BeforeFirst at line indent stack = first_indented line indent stack
line_indented AtStart at line indent stack = indented at line indent stack
line_indented Inside at line indent stack = Ok (record { given = []; stack = stack })

-- the line is blank from here on: nothing is left, or a line's end or a comment comes
abbrev pub is_blank : List ℕ → Bool
is_blank [] = true
is_blank (b ∷ bs) = b == 10 || b == 35

-- how many leading spaces a line has, where it begins here
abbrev pub lead : Line → List ℕ → ℕ
lead line rest = if is_inside line.phase then 0 else prefix_len (λ b. b == 32) rest

-- What the indent of a line gives that begins here and is not blank. The rest is what stands behind its leading spaces,
-- at this place.
abbrev pub opened_at : ℕ → Line → ℕ → List ℕ → List ℕ → Indented
opened_at at line indent stack first =
    if is_blank first then Ok (record { given = []; stack = stack })
    else line_indented line.phase at line.number indent stack
