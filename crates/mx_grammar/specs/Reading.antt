-- Parsers of a list of tokens, and what they are made of. They say what the code computes; what the public calls promise is said by
-- the relations of the grammar.
use Rattle.std.specs.Prelude.{◌≡◌, ◌≢◌, ℕ, zero, suc, ◌+◌, Bool, true, false, if◌then◌else◌, List, [], ◌∷◌, ◌++◌, length, Option, Some, None, Result, Ok, Err}
use Rattle.mx_grammar.specs.declared.word.Symbol.{Symbol}
use Rattle.mx_grammar.specs.declared.word.Symbol.TheVariants.{Comma, Newline, End}
use Rattle.mx_grammar.specs.declared.word.Word.{Word}
use Rattle.mx_grammar.specs.declared.word.Word.TheVariants.{Text}
use Rattle.mx_grammar.specs.declared.trouble.Trouble.{Trouble}
use Rattle.mx_grammar.specs.declared.trouble.Trouble.TheVariants.{NoMemory, Unexpected}
use Rattle.mx_grammar.specs.Words.{is}

abbrev pub Words : Type 0
Words = List Word

-- what was read and the tokens after it, or how many tokens there are from the unexpected one on
abbrev pub Outcome : Type 0 → Type 0
Outcome A = Result (A × Words) Trouble

abbrev pub Parser : Type 0 → Type 0
Parser A = Words → Outcome A

abbrev pub and_then : {A B : Type 0} → Outcome A → (A → Parser B) → Outcome B
and_then (Ok p) f = f p.0 p.1
and_then (Err e) f = Err e

infixl 10 ◌>>=◌
abbrev pub ◌>>=◌ : {A B : Type 0} → Parser A → (A → Parser B) → Parser B
p >>= f = λ ts. and_then (p ts) f

infixl 10 ◌>>◌
abbrev pub ◌>>◌ : {A B : Type 0} → Parser A → Parser B → Parser B
p >> q = p >>= (λ _. q)

abbrev pub pure : {A : Type 0} → A → Parser A
pure a = λ ts. Ok (a, ts)

-- the next token is one of these
abbrev pub sees : (Word → Bool) → Words → Bool
sees is [] = false
sees is (t ∷ ts) = is t

abbrev pub behind : Words → Words
behind [] = []
behind (t ∷ ts) = ts

abbrev pub after : (Word → Bool) → Words → Words
after is ts = if sees is ts then behind ts else ts

abbrev pub refuse : {A : Type 0} → Parser A
refuse = λ ts. Err (Unexpected (length ts))

abbrev pub taken : {A : Type 0} → Words → ℕ → Option A → Outcome A
taken ts n (Some a) = Ok (a, ts)
taken ts n None = Err (Unexpected n)

-- the next token, as what it says
abbrev pub accept : {A : Type 0} → (Word → Option A) → Parser A
accept says [] = Err (Unexpected 0)
accept says (t ∷ ts) = taken ts (suc (length ts)) (says t)

abbrev pub text_of : Word → Option (List ℕ)
text_of (Text t) = Some t
text_of _ = None

-- the first where the next token is one of these, else the second
abbrev pub choose : {A : Type 0} → (Word → Bool) → Parser A → Parser A → Parser A
choose is p q = λ ts. if sees is ts then p ts else q ts

abbrev pub seen : Bool → Option (Unit {0})
seen true = Some tt
seen false = None

abbrev pub says : (Word → Bool) → Word → Option (Unit {0})
says is t = seen (is t)

abbrev pub expect : Symbol → Parser (Unit {0})
expect s = accept (says (is s))

-- ---- turns: each says how the next one begins, or what the whole loop gives

pub data Turn (S B : Type 0) : Type 0 where
  On : S → Turn S B
  Done : B → Turn S B

abbrev pub after_turn : {S B : Type 0} → (S → Parser B) → Turn S B → Parser B
after_turn more (On s) = more s
after_turn more (Done b) = pure b

unfoldable pub turns : {S B : Type 0} → (S → Parser (Turn S B)) → ℕ → S → Parser B
turns turn zero s = refuse
turns turn (suc n) s = turn s >>= after_turn (turns turn n)

-- each turn takes a token, so so many are enough
unfoldable pub turning : {S B : Type 0} → (S → Parser (Turn S B)) → S → Parser B
turning turn s = λ ts. turns turn (suc (length ts)) s ts

-- items while the next token is one of these, behind those found before
abbrev pub many_turn : {A : Type 0} → (Word → Bool) → Parser A → List A → Parser (Turn (List A) (List A))
many_turn is item found = choose is (item >>= λ a. pure (On (found ++ a ∷ []))) (pure (Done found))

abbrev pub many : {A : Type 0} → (Word → Bool) → Parser A → Parser (List A)
many is item = turning (many_turn is item) []

-- what is left of items with commas between, maybe with one behind the last, up to a symbol that closes
abbrev pub item_turn : {A : Type 0} → Symbol → Parser A → List A → Parser (Turn (List A) (List A))
item_turn closes item found =
    choose (is closes) (expect closes >> pure (Done found))
    (item >>= λ a. choose (is Comma) (expect Comma >> pure (On (found ++ a ∷ []))) (expect closes >> pure (Done (found ++ a ∷ []))))

-- behind those found before
abbrev pub listed : {A : Type 0} → Symbol → Parser A → List A → Parser (List A)
listed closes item = turning (item_turn closes item)

-- at least one item
abbrev pub some_listed : {A : Type 0} → Symbol → Parser A → Parser (List A)
some_listed closes item = item >>= λ a. choose (is Comma) (expect Comma >> listed closes item (a ∷ [])) (expect closes >> pure (a ∷ []))

-- ---- levels: a rule takes what parses its parts inside brackets

unfoldable pub levels : {A : Type 0} → (Parser A → Parser A) → ℕ → Parser A
levels rule zero = refuse
levels rule (suc n) = rule (levels rule n)

-- ---- what a function that parses ensures: the parser's outcome, unless memory fails

abbrev pub Reads : {A : Type 0} → Outcome A → Result A Trouble → Words → Type 0
Reads outcome (Ok a) new = outcome ≡ Ok (a, new)
Reads outcome (Err e) new = e ≢ NoMemory → outcome ≡ Err e

abbrev pub Gives : {A : Type 0} → Result A Trouble → Result A Trouble → Type 0
Gives outcome (Ok a) = outcome ≡ Ok a
Gives outcome (Err e) = e ≢ NoMemory → outcome ≡ Err e

-- ---- a line alone

unfoldable pub line : {A : Type 0} → Parser A → Parser A
line p = p >>= λ x. expect Newline >> pure x

-- ---- a whole text: what a parser reads, and END behind it

unfoldable pub text : {A : Type 0} → Parser A → Parser A
text p = p >>= λ x. expect End >> pure x

abbrev pub whole : {A : Type 0} → Outcome A → Result A Trouble
whole (Ok (x, [])) = Ok x
whole (Ok (x, t ∷ ts)) = Err (Unexpected (suc (length ts)))
whole (Err e) = Err e

-- more levels than there are tokens
abbrev pub enough : Words → ℕ
enough ts = length ts + 1

-- the whole text, by a parser in so many levels
abbrev pub parsed : {A : Type 0} → (ℕ → Parser A) → Words → Result A Trouble
parsed p ts = whole (text (p (enough ts)) ts)
