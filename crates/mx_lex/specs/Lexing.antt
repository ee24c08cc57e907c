-- The tokens of a source.
use Rattle.std.specs.Prelude.{ℕ, ◌+◌, ◌-◌, zero, suc, ◌==◌, nat_lt, List, [], ◌∷◌, ◌++◌, length, drop, if◌then◌else◌, option_to_list, Result, Ok, Err}
use Rattle.mx_lex.specs.Heads.{empty_token, is_inside, head_at}
use Rattle.mx_lex.specs.Lines.{Levels, lead, opened_at}
use Rattle.mx_lex.specs.declared.Token.{Token}
use Rattle.mx_lex.specs.declared.TokenKind.TheVariants.{Newline, Dedent, End}
use Rattle.mx_lex.specs.declared.LexRefusal.{LexRefusal}
use Rattle.mx_lex.specs.declared.LexRefusal.TheVariants.{TooLong}
use Rattle.mx_lex.specs.declared.line.Phase.TheVariants.{BeforeFirst}
use Rattle.mx_lex.specs.declared.line.Line.{Line}
use Rattle.mx_lex.specs.declared.line.Head.{Head}

-- what was read says of what comes: how the line stands, with the brackets that are open, and the stack of indents
pub record Reading : Type 0 where
  pub line : Line
  pub stack : List ℕ

-- what the front of the rest gives: tokens, how many bytes it takes, and what is known behind it
pub record Step : Type 0 where
  pub given : List Token
  pub taken : ℕ
  pub next : Reading

abbrev pub Tokens : Type 0
Tokens = Result (List Token) LexRefusal

abbrev pub step_from : Levels → ℕ → Head → Step
step_from levels spaces head =
    record { given = levels.given ++ option_to_list head.token; taken = spaces + head.taken; next = record { line = head.next; stack = levels.stack } }

infixl 10 ◌>>=◌
abbrev pub ◌>>=◌ : {A B : Type 0} → Result A LexRefusal → (A → Result B LexRefusal) → Result B LexRefusal
(Ok x) >>= f = f x
(Err e) >>= f = Err e

-- a line's indent where the line begins here, and then what stands behind its leading spaces
abbrev pub step_behind : ℕ → ℕ → Reading → List ℕ → Result Step LexRefusal
step_behind at spaces reading first = do
  levels ← opened_at at reading.line spaces reading.stack first
  head ← head_at at reading.line first
  Ok (step_from levels spaces head)

unfoldable pub step_at : ℕ → Reading → List ℕ → Result Step LexRefusal
step_at at reading rest = let spaces = lead reading.line rest in step_behind (at + spaces) spaces reading (drop spaces rest)

-- a DEDENT for each level above 0
abbrev pub dedents_at : ℕ → List ℕ → List Token
dedents_at at [] = []
dedents_at at (top ∷ below) = if top == 0 then [] else empty_token Dedent at ∷ dedents_at at below

-- at the end: NEWLINE if the last line lacks it, DEDENTs down to 0, and END
unfoldable pub closing_at : ℕ → Reading → List Token
closing_at at reading =
    (if is_inside reading.line.phase then empty_token Newline at ∷ [] else []) ++ dedents_at at reading.stack ++ empty_token End at ∷ []

abbrev pub tokens_before : List Token → Tokens → Tokens
tokens_before front (Ok tokens) = Ok (front ++ tokens)
tokens_before front (Err e) = Err e

-- The tokens of the rest from this place on. The first `passed` bytes of the rest belong to what was given before.
unfoldable pub tokens_from : List ℕ → ℕ → ℕ → Reading → Tokens
tokens_from [] passed at reading = Ok (closing_at at reading)
tokens_from (b ∷ bs) (suc passed) at reading = tokens_from bs passed (at + 1) reading
tokens_from (b ∷ bs) zero at reading =
    elim (step_at at reading (b ∷ bs)) [ Ok step ↦ tokens_before step.given (tokens_from bs (step.taken - 1) (at + 1) step.next) | Err e ↦ Err e ]

-- at the beginning of a source: no line yet, and 0 on the stack of indents
unfoldable pub beginning : Reading
beginning = record { line = record { number = 1; phase = BeforeFirst; brackets = 0 }; stack = 0 ∷ [] }

-- the tokens of a source of at most 65,536 bytes, or the first trouble
unfoldable pub tokens_of : List ℕ → Tokens
tokens_of source = if nat_lt 65536 (length source) then Err TooLong else tokens_from source 0 0 beginning
