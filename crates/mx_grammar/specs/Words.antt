-- Tokens as the grammar sees them.
use Rattle.std.specs.Prelude.{ℕ, ◌+◌, ◌*◌, ◌-◌, ◌^◌, ◌≤◌, ◌≡◌, Bool, true, false, ◌==◌, List, [], ◌∷◌, length, take, drop, if◌then◌else◌, codes, pos}
use Rattle.std.specs.List.{prefix_len, AllPass}
use Rattle.std.specs.Char.{is_ascii_digit}
use Rattle.std.specs.Str.{bytes_eq}
use Rattle.mx_lex.specs.declared.Token.{Token}
use Rattle.mx_lex.specs.declared.TokenKind.{TokenKind}
use Rattle.mx_lex.specs.declared.TokenKind.TheVariants as kind
use Rattle.mx_lex.specs.Laws.{text_of, IsSpelled}
use Rattle.mx_lex.specs.Spans.{digits_from}
use Rattle.mx_grammar.specs.declared.word.Symbol.{Symbol}
use Rattle.mx_grammar.specs.declared.word.Symbol.TheVariants as symbol
use Rattle.mx_grammar.specs.declared.word.Word.{Word}
use Rattle.mx_grammar.specs.declared.word.Word.TheVariants as word

abbrev pub code : Symbol → ℕ
code symbol.And = 0
code symbol.Or = 1
code symbol.Not = 2
code symbol.If = 3
code symbol.Else = 4
code symbol.Elif = 5
code symbol.For = 6
code symbol.In = 7
code symbol.Is = 8
code symbol.None = 9
code symbol.True = 10
code symbol.False = 11
code symbol.Pass = 12
code symbol.Return = 13
code symbol.Plus = 14
code symbol.Minus = 15
code symbol.Times = 16
code symbol.Over = 17
code symbol.Floor = 18
code symbol.Rem = 19
code symbol.Power = 20
code symbol.OpenRound = 21
code symbol.CloseRound = 22
code symbol.OpenSquare = 23
code symbol.CloseSquare = 24
code symbol.OpenCurly = 25
code symbol.CloseCurly = 26
code symbol.Comma = 27
code symbol.Colon = 28
code symbol.Dot = 29
code symbol.Assign = 30
code symbol.PlusAssign = 31
code symbol.MinusAssign = 32
code symbol.TimesAssign = 33
code symbol.Eq = 34
code symbol.Ne = 35
code symbol.Lt = 36
code symbol.Le = 37
code symbol.Gt = 38
code symbol.Ge = 39
code symbol.Newline = 40
code symbol.Indent = 41
code symbol.Dedent = 42
code symbol.End = 43
code symbol.Unused = 44

abbrev pub is : Symbol → Word → Bool
is s (word.Symbol t) = code t == code s
is s _ = false

abbrev pub keyword_of : List ℕ → Symbol
keyword_of text =
    if bytes_eq text (codes "and") then symbol.And else (
    if bytes_eq text (codes "or") then symbol.Or else (
    if bytes_eq text (codes "not") then symbol.Not else (
    if bytes_eq text (codes "if") then symbol.If else (
    if bytes_eq text (codes "else") then symbol.Else else (
    if bytes_eq text (codes "elif") then symbol.Elif else (
    if bytes_eq text (codes "for") then symbol.For else (
    if bytes_eq text (codes "in") then symbol.In else (
    if bytes_eq text (codes "is") then symbol.Is else (
    if bytes_eq text (codes "None") then symbol.None else (
    if bytes_eq text (codes "True") then symbol.True else (
    if bytes_eq text (codes "False") then symbol.False else (
    if bytes_eq text (codes "pass") then symbol.Pass else (
    if bytes_eq text (codes "return") then symbol.Return else (
    symbol.Unused))))))))))))))

abbrev pub mark_of : List ℕ → Symbol
mark_of text =
    if bytes_eq text (codes "+") then symbol.Plus else (
    if bytes_eq text (codes "-") then symbol.Minus else (
    if bytes_eq text (codes "*") then symbol.Times else (
    if bytes_eq text (codes "/") then symbol.Over else (
    if bytes_eq text (codes "//") then symbol.Floor else (
    if bytes_eq text (codes "%") then symbol.Rem else (
    if bytes_eq text (codes "**") then symbol.Power else (
    if bytes_eq text (codes "(") then symbol.OpenRound else (
    if bytes_eq text (codes ")") then symbol.CloseRound else (
    if bytes_eq text (codes "[") then symbol.OpenSquare else (
    if bytes_eq text (codes "]") then symbol.CloseSquare else (
    if bytes_eq text (codes "{") then symbol.OpenCurly else (
    if bytes_eq text (codes "}") then symbol.CloseCurly else (
    if bytes_eq text (codes ",") then symbol.Comma else (
    if bytes_eq text (codes ":") then symbol.Colon else (
    if bytes_eq text (codes ".") then symbol.Dot else (
    if bytes_eq text (codes "=") then symbol.Assign else (
    if bytes_eq text (codes "+=") then symbol.PlusAssign else (
    if bytes_eq text (codes "-=") then symbol.MinusAssign else (
    if bytes_eq text (codes "*=") then symbol.TimesAssign else (
    if bytes_eq text (codes "==") then symbol.Eq else (
    if bytes_eq text (codes "!=") then symbol.Ne else (
    if bytes_eq text (codes "<") then symbol.Lt else (
    if bytes_eq text (codes "<=") then symbol.Le else (
    if bytes_eq text (codes ">") then symbol.Gt else (
    if bytes_eq text (codes ">=") then symbol.Ge else (
    symbol.Unused))))))))))))))))))))))))))

-- the digits before the point of a number, and those behind it
abbrev pub whole_of : List ℕ → List ℕ
whole_of text = take (prefix_len is_ascii_digit text) text

abbrev pub decimals_of : List ℕ → List ℕ
decimals_of text = drop 1 (drop (prefix_len is_ascii_digit text) text)

-- how many 10^-9 a number with a point says
abbrev pub fix_of : List ℕ → ℕ
fix_of text = digits_from 0 (whole_of text) * 10 ^ 9 + digits_from 0 (decimals_of text) * 10 ^ (9 - length (decimals_of text))

-- a number with a point, of at most 10000000000
pub record IsDecimal (text : List ℕ) : Type 0 where
  pub whole : AllPass is_ascii_digit (whole_of text)
  pub point : 1 ≤ length (drop (prefix_len is_ascii_digit text) text)
  pub decimals : AllPass is_ascii_digit (decimals_of text)
  pub few : length (decimals_of text) ≤ 9
  pub most : digits_from 0 (whole_of text) ≤ 10 ^ 10
  pub small : digits_from 0 (decimals_of text) ≤ 10 ^ 9
  pub fits : fix_of text ≤ 10 ^ 19

-- the bytes that stand in a text, each `\` before another dropped. `escaped` says that one stood before these bytes.
abbrev pub unescaped : Bool → List ℕ → List ℕ
unescaped escaped [] = []
unescaped true (b ∷ bs) = b ∷ unescaped false bs
unescaped false (b ∷ bs) = if b == 92 then unescaped true bs else b ∷ unescaped false bs

-- without the quotes
abbrev pub inner_of : List ℕ → List ℕ
inner_of text = take (length text - 2) (drop 1 text)

abbrev pub word_by : TokenKind → List ℕ → Word
word_by kind.Name text = word.Name text
word_by kind.Keyword text = word.Symbol (keyword_of text)
word_by kind.Int text = word.Int (digits_from 0 text)
word_by kind.Fix text = word.Fix (pos (fix_of text))
word_by kind.Text text = word.Text (unescaped false (inner_of text))
word_by kind.Mark text = word.Symbol (mark_of text)
word_by kind.Newline text = word.Symbol symbol.Newline
word_by kind.Indent text = word.Symbol symbol.Indent
word_by kind.Dedent text = word.Symbol symbol.Dedent
word_by kind.End text = word.Symbol symbol.End

abbrev pub word_of : List ℕ → Token → Word
word_of source t = word_by t.kind (text_of source t)

-- a token that is spelled as its kind says, within the source
pub record IsReadable (source : List ℕ) (t : Token) : Type 0 where
  pub within : t.at + t.len ≤ length source
  pub spelled : IsSpelled t.kind (text_of source t)
  pub decimal : t.kind ≡ kind.Fix → IsDecimal (text_of source t)
