-- What holds of the tokens of every source.
use Rattle.std.specs.Prelude.{◌≡◌, ◌≢◌, ℕ, ◌+◌, ◌-◌, ◌<◌, ◌≤◌, Bool, true, false, List, [], ◌∷◌, ◌++◌, length, take, drop, All, ◌||◌}
use Rattle.std.specs.List.{AllPass, list_any}
use Rattle.std.specs.Str.{bytes_eq}
use Rattle.std.specs.Char.{is_ascii_digit}
use Rattle.mx_lex.specs.Bytes.{begins_name, continues_name, is_printable, is_quote, first_passes}
use Rattle.mx_lex.specs.Spans.{is_keyword, is_whole, digits_from, whole_limit, long_marks, short_marks}
use Rattle.mx_lex.specs.Heads.{empty_token}
use Rattle.mx_lex.specs.declared.Token.{Token}
use Rattle.mx_lex.specs.declared.TokenKind.{TokenKind}
use Rattle.mx_lex.specs.declared.TokenKind.TheVariants.{Name, Keyword, Int, Fix, Text, Mark, Indent, Dedent, End}

-- the tokens stand between two places, and each begins at or behind the end of the one before it
abbrev pub InOrder : ℕ → ℕ → List Token → Type 0
InOrder low high [] = low ≤ high
InOrder low high (t ∷ ts) = (low ≤ t.at) × InOrder (t.at + t.len) high ts

-- the last token is END, at this place, and no other is
pub record EndsWithEnd (place : ℕ) (tokens : List Token) : Type 0 where
  pub front : List Token
  pub parts : tokens ≡ front ++ empty_token End place ∷ []
  pub none : All (λ t. t.kind ≢ End) front

-- how many blocks are open behind a token
abbrev pub depth_behind : TokenKind → ℕ → ℕ
depth_behind Indent depth = depth + 1
depth_behind Dedent depth = depth - 1
depth_behind _ depth = depth

-- a DEDENT stands only where a block is open
abbrev pub MayStand : TokenKind → ℕ → Type 0
MayStand Dedent depth = 0 < depth
MayStand _ depth = Unit {0}

-- INDENTs and DEDENTs are the brackets of blocks: each block that is open is closed, and no other
abbrev pub Balanced : ℕ → List Token → Type 0
Balanced depth [] = depth ≡ 0
Balanced depth (t ∷ ts) = MayStand t.kind depth × Balanced (depth_behind t.kind depth) ts

pub record IsName (text : List ℕ) : Type 0 where
  pub begins : first_passes begins_name text ≡ true
  pub continues : AllPass continues_name text
  pub free : is_keyword text ≡ false

-- a whole number of at most one more than the greatest `i64`
pub record IsInt (text : List ℕ) : Type 0 where
  pub digits : AllPass is_ascii_digit text
  pub some : 0 < length text
  pub whole : is_whole text ≡ true
  pub bound : digits_from 0 text ≤ 9223372036854775808

-- digits, a point, and 1 to 9 digits; at most 10000000000
pub record IsFix (text : List ℕ) : Type 0 where
  pub digits : List ℕ
  pub decimals : List ℕ
  pub parts : text ≡ digits ++ 46 ∷ decimals
  pub whole : is_whole digits ≡ true
  pub some : 1 ≤ length decimals
  pub few : length decimals ≤ 9
  pub bound : digits_from 0 digits ≤ whole_limit decimals

-- printable bytes between two quotes of one kind
pub record IsText (text : List ℕ) : Type 0 where
  pub quote : ℕ
  pub inner : List ℕ
  pub parts : text ≡ quote ∷ inner ++ quote ∷ []
  pub quoted : is_quote quote ≡ true
  pub printable : AllPass is_printable inner

-- one of the marks
abbrev pub is_mark : List ℕ → Bool
is_mark text = list_any (λ mark. bytes_eq mark text) long_marks || list_any (λ mark. bytes_eq mark text) short_marks

abbrev pub IsSpelled : TokenKind → List ℕ → Type 0
IsSpelled Name text = IsName text
IsSpelled Keyword text = is_keyword text ≡ true
IsSpelled Int text = IsInt text
IsSpelled Fix text = IsFix text
IsSpelled Text text = IsText text
IsSpelled Mark text = is_mark text ≡ true
IsSpelled _ text = text ≡ []

-- the bytes of a token
abbrev pub text_of : List ℕ → Token → List ℕ
text_of source t = take t.len (drop t.at source)
