-- The parts of a command's text: its lines without their ends, joined by LF.
use Rattle.std.specs.Prelude.{ℕ, zero, suc, ◌+◌, ◌-◌, Bool, false, ◌==◌, ◌||◌, ◌&&◌, List, [], ◌∷◌, take, drop, length, nat_lt, if◌then◌else◌, Ok, Err}
use Rattle.mx_lex.specs.Bytes.{continues_name, is_opening, is_closing, is_quote}
use Rattle.mx_lex.specs.Fronts.{front_of}
use Rattle.mx_words.specs.declared.scan.Scan.{Scan}
use Rattle.mx_words.specs.declared.scan.Scan.TheVariants.{Outside, Quoted, Escaped}

-- how many spaces a text begins with
abbrev pub spaces : List ℕ → ℕ
spaces [] = zero
spaces (b ∷ bs) = if b == 32 then suc (spaces bs) else zero

-- the text behind its leading spaces
abbrev pub behind_spaces : List ℕ → List ℕ
behind_spaces text = drop (spaces text) text

-- how many bytes stand before the first space or line end
abbrev pub word_length : List ℕ → ℕ
word_length [] = zero
word_length (b ∷ bs) = if (b == 32) || (b == 10) then zero else suc (word_length bs)

abbrev pub first_word : List ℕ → List ℕ
first_word text = take (word_length text) text

abbrev pub behind_word : List ℕ → List ℕ
behind_word text = drop (word_length text) text

-- how many bytes stand before the first opening parenthesis, wherever that stands
abbrev pub head_length : List ℕ → ℕ
head_length [] = zero
head_length (b ∷ bs) = if b == 40 then zero else suc (head_length bs)

-- what stands before the first opening parenthesis
abbrev pub head_of : List ℕ → List ℕ
head_of text = take (head_length text) text

-- the text from the first opening parenthesis on
abbrev pub formula_of : List ℕ → List ℕ
formula_of text = drop (head_length text) text

-- How many bytes stand up to the last that is no space: the rest begins at this place, and so many were found before it.
abbrev pub end_from : ℕ → ℕ → List ℕ → ℕ
end_from end at [] = end
end_from end at (b ∷ bs) = end_from (if b == 32 then end else at + 1) (at + 1) bs

-- the text without the spaces at its end
abbrev pub before_spaces : List ℕ → List ℕ
before_spaces text = take (end_from 0 0 text) text

-- where a byte leads to from outside of texts
abbrev pub behind_open : ℕ → ℕ → Scan
behind_open b n = if is_opening b then Outside (n + 1) else (if is_closing b then Outside (n - 1) else (if is_quote b then Quoted n b else Outside n))

abbrev pub behind_byte : ℕ → Scan → Scan
behind_byte b (Outside n) = behind_open b n
behind_byte b (Quoted n q) = if b == 92 then Escaped n q else (if b == q then Outside n else Quoted n q)
behind_byte b (Escaped n q) = Quoted n q

-- outside of texts and brackets
abbrev pub is_open : Scan → Bool
is_open (Outside n) = n == 0
is_open _ = false

abbrev pub node_from : Scan → List ℕ → ℕ
node_from s [] = zero
node_from s (b ∷ bs) = if is_open s && (b == 61) then zero else suc (node_from (behind_byte b s) bs)

-- how many bytes stand before the first `=` outside of texts and brackets
abbrev pub node_length : List ℕ → ℕ
node_length source = node_from (Outside 0) source

-- in how many brackets
abbrev pub depth_of : Scan → ℕ
depth_of (Outside n) = n
depth_of (Quoted n q) = n
depth_of (Escaped n q) = n

-- how many bytes of a name a text begins with
abbrev pub name_length : List ℕ → ℕ
name_length [] = zero
name_length (b ∷ bs) = if continues_name b then suc (name_length bs) else zero

abbrev pub first_name : List ℕ → List ℕ
first_name text = take (name_length text) text

-- how many bytes a text has up to its first token `=`, which are all where it has none, or where a trouble stands before it
abbrev pub behind_equals : List ℕ → ℕ
behind_equals text = elim (front_of text 61) [ Ok n ↦ if nat_lt n (length text) then n + 1 else length text | Err e ↦ length text ]
