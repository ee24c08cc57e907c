-- What a call that works on the stack of indents and on the tokens leaves.
use Rattle.std.specs.Prelude.{◌≡◌, ◌≢◌, ℕ, List, [], ◌∷◌, ◌++◌, reverse, Option, None, Some, Result, Ok, Err}
use Rattle.mx_lex.specs.Lines.{Indented, given_before}
use Rattle.mx_lex.specs.Lexing.{Step}
use Rattle.mx_lex.specs.declared.line.Line.{Line}
use Rattle.mx_lex.specs.declared.Token.{Token}
use Rattle.mx_lex.specs.declared.LexRefusal.{LexRefusal}
use Rattle.mx_lex.specs.declared.LexRefusal.TheVariants.{NoMemory}

-- The call answers what the definition gives: its tokens are behind those that were there, and its stack is left. Only
-- want of memory comes beside it.
abbrev pub Stacks : Indented → List Token → Result (Unit {0}) LexRefusal → List Token → List ℕ → Type 0
Stacks outcome front (Ok _) tokens stack = given_before front outcome ≡ Ok (record { given = tokens; stack = reverse stack })
Stacks outcome front (Err e) tokens stack = e ≢ NoMemory → outcome ≡ Err e

abbrev pub step_before : List Token → Result Step LexRefusal → Result Step LexRefusal
step_before front (Ok step) = Ok (record step { given = front ++ step.given })
step_before front (Err e) = Err e

-- the same of a call that gives the bytes taken and how the line goes on
abbrev pub Advances : Result Step LexRefusal → List Token → Result (ℕ × Line) LexRefusal → List Token → List ℕ → Type 0
Advances outcome front (Ok went) tokens stack =
    step_before front outcome ≡ Ok (record { given = tokens; taken = went.0; next = record { line = went.1; stack = reverse stack } })
Advances outcome front (Err e) tokens stack = e ≢ NoMemory → outcome ≡ Err e

-- the innermost indent of a stack
abbrev pub top_of : List ℕ → Option ℕ
top_of [] = None
top_of (top ∷ below) = Some top
