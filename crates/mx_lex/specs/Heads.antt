-- What one byte or token of a line does: the token that it gives, the bytes that it takes, and how the line goes on.
use Rattle.std.specs.Prelude.{ℕ, ◌+◌, ◌-◌, Bool, true, false, ◌&&◌, ◌==◌, List, [], ◌∷◌, drop, if◌then◌else◌, Option, None, Some, Result, Ok, Err}
use Rattle.std.specs.List.{prefix_len}
use Rattle.mx_lex.specs.Bytes.{is_printable, is_opening, is_closing}
use Rattle.mx_lex.specs.Spans.{Found, span_at}
use Rattle.mx_lex.specs.declared.Token.{Token}
use Rattle.mx_lex.specs.declared.TokenKind.{TokenKind}
use Rattle.mx_lex.specs.declared.TokenKind.TheVariants.{Newline}
use Rattle.mx_lex.specs.declared.LexRefusal.{LexRefusal}
use Rattle.mx_lex.specs.declared.LexRefusal.TheVariants.{BadByte}
use Rattle.mx_lex.specs.declared.line.Phase.{Phase}
use Rattle.mx_lex.specs.declared.line.Phase.TheVariants.{BeforeFirst, AtStart, Inside}
use Rattle.mx_lex.specs.declared.line.Line.{Line}
use Rattle.mx_lex.specs.declared.line.Head.{Head}

abbrev pub empty_token : TokenKind → ℕ → Token
empty_token kind at = record { kind = kind; at = at; len = 0 }

-- the line has given a token, and its NEWLINE is still to come
abbrev pub is_inside : Phase → Bool
is_inside BeforeFirst = false
is_inside AtStart = false
is_inside Inside = true

-- a line's end or a comment ends this line: a token was given, and no bracket is open
abbrev pub ends_line : Line → Bool
ends_line line = is_inside line.phase && line.brackets == 0

-- the NEWLINE at this place, where the line is to end
abbrev pub newline_at : ℕ → Line → Option Token
newline_at at line = if ends_line line then Some (empty_token Newline at) else None

abbrev pub ended : Line → Line
ended line = if ends_line line then record line { phase = AtStart } else line

-- the next line of the source
abbrev pub next_line : Line → Line
next_line line = record (ended line) { number = line.number + 1 }

-- the brackets that are open behind a token with this first byte; never below 0
abbrev pub brackets_behind : ℕ → ℕ → ℕ
brackets_behind b count = if is_opening b then count + 1 else (if is_closing b then count - 1 else count)

abbrev pub nothing : ℕ → Line → Result Head LexRefusal
nothing taken line = Ok (record { token = None; taken = taken; next = line })

-- nothing is left, or a line's end
abbrev pub ends_here : List ℕ → Bool
ends_here [] = true
ends_here (b ∷ bs) = b == 10

-- a comment goes on to its line's end, which it does not take
unfoldable pub comment_at : ℕ → Line → List ℕ → Result Head LexRefusal
comment_at at line rest =
    let len = prefix_len is_printable rest in
    if ends_here (drop len rest) then Ok (record { token = newline_at at line; taken = len; next = ended line }) else Err (BadByte (at + len))

abbrev pub token_from : ℕ → Line → ℕ → Found → Result Head LexRefusal
token_from at line b (Ok span) =
    Ok (record { token = Some (record { kind = span.kind; at = at; len = span.len }); taken = span.len; next = record line { phase = Inside; brackets = brackets_behind b line.brackets } })
token_from at line b (Err e) = Err e

-- what stands at this place
unfoldable pub head_at : ℕ → Line → List ℕ → Result Head LexRefusal
head_at at line [] = nothing 0 line
head_at at line (b ∷ bs) =
    if b == 32 then nothing 1 line
    else (if b == 10 then Ok (record { token = newline_at at line; taken = 1; next = next_line line })
    else (if b == 35 then comment_at at line (b ∷ bs)
    else token_from at line b (span_at at (b ∷ bs))))
