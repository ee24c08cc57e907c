-- The bytes that names, numbers, texts and comments are made of.
use Rattle.std.specs.Prelude.{ℕ, Bool, false, ◌||◌, ◌==◌, List, [], ◌∷◌}
use Rattle.std.specs.Char.{is_ascii_digit, is_ascii_alphabetic}
pub use Rattle.mx_value.specs.Label.{is_printable}

-- a letter or `_`
abbrev pub begins_name : ℕ → Bool
begins_name b = is_ascii_alphabetic b || b == 95

-- a letter, a digit or `_`
abbrev pub continues_name : ℕ → Bool
continues_name b = begins_name b || is_ascii_digit b

-- `'` or `"`
abbrev pub is_quote : ℕ → Bool
is_quote b = b == 39 || b == 34

-- what `\` may stand before in a text: `\`, `'` or `"`
abbrev pub is_escaped : ℕ → Bool
is_escaped b = b == 92 || is_quote b

-- `(`, `[` or `{`
abbrev pub is_opening : ℕ → Bool
is_opening b = b == 40 || b == 91 || b == 123

-- `)`, `]` or `}`
abbrev pub is_closing : ℕ → Bool
is_closing b = b == 41 || b == 93 || b == 125

-- the rest begins with a byte that passes
abbrev pub first_passes : (ℕ → Bool) → List ℕ → Bool
first_passes p [] = false
first_passes p (b ∷ bs) = p b
