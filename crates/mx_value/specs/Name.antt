-- Names: when two are the same, and which labels are names, those that Python's grammar takes as identifiers but for a leading `_`.
use Rattle.std.specs.Prelude.{ℕ, Bool, false, List, [], ◌∷◌, ◌||◌, ◌&&◌, ◌==◌, nat_le, length, codes, not}
use Rattle.std.specs.List.{list_any, list_all}
use Rattle.std.specs.Char.{is_ascii_alphabetic, is_ascii_alphanumeric}
use Rattle.std.specs.Cmp.Lexicographic.{pointwise}

-- the two names have the same bytes
abbrev pub same_name : List ℕ → List ℕ → Bool
same_name = pointwise ◌==◌

-- the two paths have the same names
abbrev pub same_path : List (List ℕ) → List (List ℕ) → Bool
same_path = pointwise same_name

-- Python's keywords
abbrev pub keywords : List (List ℕ)
keywords =
    codes "and" ∷ codes "as" ∷ codes "assert" ∷ codes "async" ∷ codes "await" ∷ codes "break" ∷ codes "class" ∷
    codes "continue" ∷ codes "def" ∷ codes "del" ∷ codes "elif" ∷ codes "else" ∷ codes "except" ∷ codes "finally" ∷
    codes "for" ∷ codes "from" ∷ codes "global" ∷ codes "if" ∷ codes "import" ∷ codes "in" ∷ codes "is" ∷
    codes "lambda" ∷ codes "nonlocal" ∷ codes "not" ∷ codes "or" ∷ codes "pass" ∷ codes "raise" ∷ codes "return" ∷
    codes "try" ∷ codes "while" ∷ codes "with" ∷ codes "yield" ∷ codes "None" ∷ codes "True" ∷ codes "False" ∷ []

unfoldable pub is_keyword : List ℕ → Bool
is_keyword bytes = list_any (same_name bytes) keywords

-- a letter, a digit or `_`
abbrev pub is_name_byte : ℕ → Bool
is_name_byte b = is_ascii_alphanumeric b || b == 95

-- a letter, then letters, digits and `_`
abbrev pub is_spelled : List ℕ → Bool
is_spelled [] = false
is_spelled (b ∷ bs) = is_ascii_alphabetic b && list_all is_name_byte bs

-- a letter, then letters, digits and `_`, at most 64 bytes in all, and no keyword
abbrev pub is_name : List ℕ → Bool
is_name bytes = is_spelled bytes && nat_le (length bytes) 64 && not (is_keyword bytes)
