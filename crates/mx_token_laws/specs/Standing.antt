-- Where tokens stand in a source, said of its bytes and of the tokens alone.
use Rattle.std.specs.Prelude.{◌≡◌, ◌≢◌, ℕ, ◌+◌, ◌<◌, ◌≤◌, Bool, true, false, not, ◌||◌, ◌&&◌, ◌==◌, List, [], ◌∷◌, ◌++◌, length, take, drop, Option, None, Some, ◌⊎◌}
use Rattle.std.specs.List.{AllPass}
use Rattle.std.specs.Char.{is_ascii_digit}
use Rattle.mx_lex.specs.Bytes.{begins_name, continues_name, is_printable, is_quote, is_escaped, first_passes}
use Rattle.mx_lex.specs.Spans.{is_glued, is_fix, begins_with_one, long_marks, short_marks}
use Rattle.mx_lex.specs.Heads.{ends_here, brackets_behind, empty_token}
use Rattle.mx_lex.specs.Lines.{is_blank}
use Rattle.mx_lex.specs.Laws.{IsSpelled}
use Rattle.mx_lex.specs.declared.Token.{Token}
use Rattle.mx_lex.specs.declared.TokenKind.{TokenKind}
use Rattle.mx_lex.specs.declared.TokenKind.TheVariants.{Name, Keyword, Int, Fix, Text, Mark, Newline, Indent, Dedent, End}

-- ---- what stands between tokens

abbrev pub AreSpaces : List ℕ → Type 0
AreSpaces bytes = AllPass (λ b. b == 32) bytes

-- Spaces, line ends and comments. A comment goes on to the end of its line, or of the source. The first are the bytes behind.
pub data IsGap (behind : List ℕ) : List ℕ → Type 0 where
  none : IsGap behind []
  space : (bs : List ℕ) → IsGap behind bs → IsGap behind (32 ∷ bs)
  line_end : (bs : List ℕ) → IsGap behind bs → IsGap behind (10 ∷ bs)
  comment : (text bs : List ℕ) → AllPass is_printable text → ends_here (bs ++ behind) ≡ true → IsGap behind bs → IsGap behind (35 ∷ text ++ bs)

-- ---- how far a token reaches

-- what the first byte says: a letter or `_`, a digit, a quote, or none of them, but no `.` before a digit
pub record BeginsMark (bytes : List ℕ) : Type 0 where
  pub no_name : first_passes begins_name bytes ≡ false
  pub no_digit : first_passes is_ascii_digit bytes ≡ false
  pub no_fraction : (first_passes (λ b. b == 46) bytes && first_passes is_ascii_digit (drop 1 bytes)) ≡ false
  pub no_quote : first_passes is_quote bytes ≡ false

abbrev pub Begins : TokenKind → List ℕ → Type 0
Begins Name bytes = first_passes begins_name bytes ≡ true
Begins Keyword bytes = first_passes begins_name bytes ≡ true
Begins Int bytes = first_passes is_ascii_digit bytes ≡ true
Begins Fix bytes = first_passes is_ascii_digit bytes ≡ true
Begins Text bytes = first_passes is_quote bytes ≡ true
Begins Mark bytes = BeginsMark bytes
Begins _ bytes = ⊥

-- all letters, digits and `_` that stand here
pub record IsWord (len : ℕ) (bytes : List ℕ) : Type 0 where
  pub continues : AllPass continues_name (take len bytes)
  pub stops : first_passes continues_name (drop len bytes) ≡ false

-- digits, with no letter, digit, `_` or `.` behind them
pub record IsWhole (len : ℕ) (bytes : List ℕ) : Type 0 where
  pub are_digits : AllPass is_ascii_digit (take len bytes)
  pub stops : is_glued (drop len bytes) ≡ false

-- the same with digits on both sides of a point
pub record IsDecimal (len : ℕ) (bytes : List ℕ) : Type 0 where
  pub digits : List ℕ
  pub decimals : List ℕ
  pub parts : take len bytes ≡ digits ++ 46 ∷ decimals
  pub are_digits : AllPass is_ascii_digit digits
  pub are_decimals : AllPass is_ascii_digit decimals
  pub stops : is_fix digits decimals (drop len bytes) ≡ true

-- between the quotes of a text: behind a `\` that escapes stands `\` or a quote, and all quotes of its own kind are escaped
abbrev pub IsQuoted : ℕ → Bool → List ℕ → Type 0
IsQuoted quote escaped [] = escaped ≡ false
IsQuoted quote true (b ∷ bs) = (is_escaped b ≡ true) × IsQuoted quote false bs
IsQuoted quote false (b ∷ bs) = ((b ≡ 92) × IsQuoted quote true bs) ⊎ ((b ≢ 92) × (b ≢ quote) × IsQuoted quote false bs)

-- from a quote to the first of its kind that is not escaped
pub record IsClosed (len : ℕ) (bytes : List ℕ) : Type 0 where
  pub quote : ℕ
  pub inner : List ℕ
  pub parts : take len bytes ≡ quote ∷ inner ++ quote ∷ []
  pub printable : AllPass is_printable inner
  pub quoted : IsQuoted quote false inner

-- how far a token of this kind reaches from the front of these bytes
abbrev pub Reaches : TokenKind → ℕ → List ℕ → Type 0
Reaches Name len bytes = IsWord len bytes
Reaches Keyword len bytes = IsWord len bytes
Reaches Int len bytes = IsWhole len bytes
Reaches Fix len bytes = IsDecimal len bytes
Reaches Text len bytes = IsClosed len bytes
Reaches Mark len bytes =
    ((len ≡ 2) × (begins_with_one long_marks bytes ≡ true)) ⊎ ((len ≡ 1) × (begins_with_one long_marks bytes ≡ false) × (begins_with_one short_marks bytes ≡ true))
Reaches _ len bytes = ⊥

-- a name, number, text or mark of so many bytes stands at the front of these bytes
pub record IsToken (kind : TokenKind) (len : ℕ) (bytes : List ℕ) : Type 0 where
  pub begins : Begins kind bytes
  pub some : 0 < len
  pub within : len ≤ length bytes
  pub spelled : IsSpelled kind (take len bytes)
  pub reaches : Reaches kind len bytes

-- a token begins here: neither a space nor a line end nor a comment
abbrev pub is_solid : List ℕ → Bool
is_solid bytes = first_passes (λ b. not (b == 32 || b == 10 || b == 35)) bytes

-- ---- lines

-- what the tokens so far say of those that come
pub record Behind : Type 0 where
  -- a line of tokens has begun, and its NEWLINE is still to come
  pub inside : Bool
  -- some line has begun
  pub begun : Bool
  -- how many brackets are open
  pub brackets : ℕ
  -- the indents of the blocks that are open, the innermost first, and that of the source
  pub levels : List ℕ
  -- the indent of the line that begins, where an INDENT or DEDENT stands directly before
  pub found : Option ℕ

abbrev pub beginning : Behind
beginning = record { inside = false; begun = false; brackets = 0; levels = 0 ∷ []; found = None }

-- brackets behind the token that begins these bytes; never below 0
abbrev pub brackets_from : List ℕ → ℕ → ℕ
brackets_from [] count = count
brackets_from (b ∷ bs) count = brackets_behind b count

abbrev pub in_line : Behind → List ℕ → Behind
in_line behind bytes = record { inside = true; begun = true; brackets = brackets_from bytes behind.brackets; levels = behind.levels; found = None }

pub record EndsLine (bytes : List ℕ) : Type 0 where
  pub front : List ℕ
  pub is : bytes ≡ front ++ 10 ∷ []

-- a line begins behind these bytes, which stand at this place: the first of the source, or one behind a line end
abbrev pub BeginsLine : ℕ → List ℕ → Type 0
BeginsLine place bytes = ((place ≡ 0) × (bytes ≡ [])) ⊎ EndsLine bytes

-- so many spaces stand between the beginning of the line and what comes
pub record IsIndent (place : ℕ) (gap : List ℕ) (indent : ℕ) : Type 0 where
  pub lines : List ℕ
  pub spaces : List ℕ
  pub parts : gap ≡ lines ++ spaces
  pub begins : BeginsLine place lines
  pub are_spaces : AreSpaces spaces
  pub count : length spaces ≡ indent

-- the indent of the line that begins behind the gap
abbrev pub HasIndent : Behind → ℕ → List ℕ → ℕ → Type 0
HasIndent behind place gap indent = ((behind.found ≡ Some indent) × (gap ≡ [])) ⊎ ((behind.found ≡ None) × IsIndent place gap indent)

-- What may follow, behind a gap, at the front of these bytes: a token of this kind and length. Last comes what is then said.
pub data Follows (behind : Behind) (place : ℕ) (gap bytes : List ℕ) : TokenKind → ℕ → Behind → Type 0 where
  -- a further token of a line; a line end in the gap needs an open bracket
  goes_on : (kind : TokenKind) (len : ℕ) → behind.inside ≡ true → (behind.brackets ≡ 0 → AreSpaces gap) → IsToken kind len bytes → Follows behind place gap bytes kind len (in_line behind bytes)
  -- the first of a line, whose indent is that of the innermost block
  begins : (kind : TokenKind) (len indent : ℕ) (below : List ℕ) → behind.inside ≡ false → HasIndent behind place gap indent → behind.levels ≡ indent ∷ below → IsToken kind len bytes → Follows behind place gap bytes kind len (in_line behind bytes)
  -- NEWLINE stands at the first line end or comment with no bracket open, or at the end of the source
  newline : behind.inside ≡ true → (behind.brackets ≡ 0 → AreSpaces gap) → is_blank bytes ≡ true → (bytes ≡ []) ⊎ (behind.brackets ≡ 0) → Follows behind place gap bytes Newline 0 (record behind { inside = false })
  -- an indent that grows opens a block; one that falls opens none, so it must be that of a block
  indent : (indent top : ℕ) (below : List ℕ) → behind.inside ≡ false → behind.begun ≡ true → behind.found ≡ None → IsIndent place gap indent → behind.levels ≡ top ∷ below → top < indent → is_solid bytes ≡ true → Follows behind place gap bytes Indent 0 (record behind { levels = indent ∷ behind.levels; found = Some indent })
  -- one that falls closes each block with a greater one
  dedent : (indent top : ℕ) (below : List ℕ) → behind.inside ≡ false → HasIndent behind place gap indent → behind.levels ≡ top ∷ below → indent < top → is_solid bytes ≡ true → Follows behind place gap bytes Dedent 0 (record behind { levels = below; found = Some indent })
  -- the end of the source closes all
  closes : (top : ℕ) (below : List ℕ) → behind.inside ≡ false → behind.levels ≡ top ∷ below → 0 < top → bytes ≡ [] → Follows behind place gap bytes Dedent 0 (record behind { levels = below })

-- The tokens of these bytes, which stand at this place: gaps and tokens in turn, and END behind the last gap.
pub data IsRead : Behind → ℕ → List ℕ → List Token → Type 0 where
  ended : (behind : Behind) (place : ℕ) (gap : List ℕ) → behind.inside ≡ false → behind.levels ≡ 0 ∷ [] → IsGap [] gap → IsRead behind place gap (empty_token End (place + length gap) ∷ [])
  token : (behind next : Behind) (place past at len : ℕ) (kind : TokenKind) (all gap bytes : List ℕ) (tokens : List Token) → all ≡ gap ++ bytes → at ≡ place + length gap → past ≡ at + len → IsGap bytes gap → Follows behind place gap bytes kind len next → IsRead next past (drop len bytes) tokens → IsRead behind place all (record { kind = kind; at = at; len = len } ∷ tokens)
