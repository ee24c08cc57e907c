-- What one name, number, text, mark or comment at the front of the rest is, and how many bytes it takes.
use Rattle.std.specs.Prelude.{ℕ, ◌+◌, ◌*◌, ◌-◌, Bool, true, false, not, ◌&&◌, ◌||◌, ◌==◌, nat_le, List, [], ◌∷◌, length, take, drop, if◌then◌else◌, Result, Ok, Err, codes}
use Rattle.std.specs.List.{prefix_len, list_any, list_all}
use Rattle.std.specs.Char.{is_ascii_digit}
use Rattle.std.specs.Str.{bytes_eq}
use Rattle.mx_lex.specs.Bytes.{begins_name, continues_name, is_printable, is_quote, is_escaped, first_passes}
unfoldable pub use Rattle.mx_value.specs.Name.{is_keyword}
use Rattle.mx_lex.specs.declared.TokenKind.{TokenKind}
use Rattle.mx_lex.specs.declared.TokenKind.TheVariants.{Name, Keyword, Int, Fix, Text, Mark}
use Rattle.mx_lex.specs.declared.LexRefusal.{LexRefusal}
use Rattle.mx_lex.specs.declared.LexRefusal.TheVariants.{BadByte, BadNumber, BadText}
use Rattle.mx_lex.specs.declared.spans.Span.{Span}

-- a kind and a number of bytes, or the trouble
abbrev pub Found : Type 0
Found = Result Span LexRefusal

abbrev pub found : TokenKind → ℕ → Found
found kind len = Ok (record { kind = kind; len = len })

-- a letter or `_`, and all letters, digits and `_` behind it
unfoldable pub name_at : List ℕ → Found
name_at rest =
    let len = prefix_len continues_name rest in
    found (if is_keyword (take len rest) then Keyword else Name) len

-- what the digits say behind those that said `value`
abbrev pub digits_from : ℕ → List ℕ → ℕ
digits_from value [] = value
digits_from value (d ∷ ds) = digits_from (value * 10 + (d - 48)) ds

-- `0`, or digits with no 0 in front
abbrev pub is_whole : List ℕ → Bool
is_whole digits = length digits == 1 || not (first_passes (λ d. d == 48) digits)

-- what may not stand directly behind a number: a letter, a digit, `_` or `.`
abbrev pub is_glued : List ℕ → Bool
is_glued behind = first_passes (λ b. continues_name b || b == 46) behind

abbrev pub is_int : List ℕ → List ℕ → Bool
is_int digits behind = is_whole digits && nat_le (digits_from 0 digits) 9223372036854775808 && not (is_glued behind)

-- the greatest whole part before these decimals: a number with a point is at most 10000000000
abbrev pub whole_limit : List ℕ → ℕ
whole_limit decimals = if list_all (λ d. d == 48) decimals then 10000000000 else 9999999999

abbrev pub is_fix : List ℕ → List ℕ → List ℕ → Bool
is_fix digits decimals behind = is_whole digits && nat_le 1 (length decimals) && nat_le (length decimals) 9 && nat_le (digits_from 0 digits) (whole_limit decimals) && not (is_glued behind)

-- digits, and behind them maybe a point and digits
unfoldable pub number_at : ℕ → List ℕ → Found
number_at at rest =
    let whole = prefix_len is_ascii_digit rest in
    let behind = drop whole rest in
    let after = drop 1 behind in
    let decimals = prefix_len is_ascii_digit after in
    if first_passes (λ b. b == 46) behind
    then (if is_fix (take whole rest) (take decimals after) (drop decimals after) then found Fix (whole + 1 + decimals) else Err (BadNumber at))
    else (if is_int (take whole rest) behind then found Int whole else Err (BadNumber at))

-- The place behind the closing quote of a text whose opening quote stands at `start`. The bytes are those from `place`
-- on, and `escaped` says that the byte before them is a `\` that escapes.
abbrev pub text_end : ℕ → ℕ → Bool → ℕ → List ℕ → Result ℕ LexRefusal
text_end start quote escaped place [] = Err (BadText start)
text_end start quote escaped place (b ∷ bs) =
    if b == 10 then Err (BadText start)
    else (if not (is_printable b) then Err (BadByte place)
    else (if escaped then (if is_escaped b then text_end start quote false (place + 1) bs else Err (BadText start))
    else (if b == 92 then text_end start quote true (place + 1) bs
    else (if b == quote then Ok (place + 1)
    else text_end start quote false (place + 1) bs))))

abbrev pub text_until : ℕ → Result ℕ LexRefusal → Found
text_until at (Ok past) = found Text (past - at)
text_until at (Err e) = Err e

-- from its opening quote to its closing one
abbrev pub text_at : ℕ → List ℕ → Found
text_at at [] = Err (BadText at)
text_at at (quote ∷ bs) = text_until at (text_end at quote false (at + 1) bs)

abbrev pub long_marks : List (List ℕ)
long_marks = codes "//" ∷ codes "**" ∷ codes "==" ∷ codes "!=" ∷ codes "<=" ∷ codes ">=" ∷ codes "+=" ∷ codes "-=" ∷ codes "*=" ∷ []

abbrev pub short_marks : List (List ℕ)
short_marks = codes "+" ∷ codes "-" ∷ codes "*" ∷ codes "/" ∷ codes "%" ∷ codes "(" ∷ codes ")" ∷ codes "[" ∷ codes "]" ∷ codes "{" ∷ codes "}" ∷ codes "," ∷ codes ":" ∷ codes "." ∷ codes "=" ∷ codes "<" ∷ codes ">" ∷ []

-- one of the marks stands at the front
abbrev pub begins_with_one : List (List ℕ) → List ℕ → Bool
begins_with_one marks rest = list_any (λ mark. bytes_eq mark (take (length mark) rest)) marks

-- the longest mark at the front
unfoldable pub mark_at : ℕ → List ℕ → Found
mark_at at rest =
    if begins_with_one long_marks rest then found Mark 2
    else (if begins_with_one short_marks rest then found Mark 1
    else Err (BadByte at))

-- What begins at this byte, which is no space, no end of a line and no `#`. A point directly before a digit would be a
-- number with nothing before the point.
unfoldable pub span_at : ℕ → List ℕ → Found
span_at at rest =
    if first_passes begins_name rest then name_at rest
    else (if first_passes is_ascii_digit rest then number_at at rest
    else (if first_passes (λ b. b == 46) rest && first_passes is_ascii_digit (drop 1 rest) then Err (BadNumber at)
    else (if first_passes is_quote rest then text_at at rest
    else mark_at at rest)))
