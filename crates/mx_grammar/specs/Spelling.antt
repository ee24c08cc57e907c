-- Which source spells which tree, and at which place a source is refused.
use Rattle.std.specs.Prelude.{◌≡◌, ◌≢◌, ◌<◌, ◌≤◌, ◌+◌, ◌-◌, ℕ, List, [], ◌∷◌, ◌++◌, length, map, suc, ◌⊎◌, Result, Ok, Err}
use Rattle.mx_lex.specs.declared.Token.{Token}
use Rattle.mx_lex.specs.declared.LexRefusal.{LexRefusal}
use Rattle.mx_lex.specs.declared.LexRefusal.TheVariants as lex
use Rattle.mx_lex.specs.Lexing.{tokens_of}
use Rattle.mx_grammar.specs.declared.nesting.Open.{Open}
use Rattle.mx_grammar.specs.declared.word.Word.{Word}
use Rattle.mx_grammar.specs.declared.word.Word.TheVariants.{Symbol}
use Rattle.mx_grammar.specs.declared.word.Symbol.TheVariants.{OpenRound, CloseRound, OpenSquare, CloseSquare, OpenCurly, CloseCurly, Indent, Dedent, End}
use Rattle.mx_grammar.specs.declared.refusal.ParseRefusal.{ParseRefusal}
use Rattle.mx_grammar.specs.declared.refusal.ParseRefusal.TheVariants.{Lex, TooNested, Unexpected, TooManyLoops, PrintsTooLong, NoMemory}
use Rattle.mx_grammar.specs.declared.trouble.Trouble.{Trouble}
use Rattle.mx_grammar.specs.declared.trouble.Trouble.TheVariants as trouble
use Rattle.mx_grammar.specs.Words.{word_of}
use Rattle.mx_grammar.specs.Grammar.{Spelling}

-- A language: which tokens before END spell which tree, with brackets in so many levels. What is spelled in some levels is spelled
-- in more.
abbrev pub Language : Type 0 → Type 1
Language A = ℕ → Spelling A

-- a whole text ends with END
pub record Spells {A : Type 0} (L : Language A) (ts : List Word) (x : A) : Type 0 where
  pub levels : ℕ
  pub text : List Word
  pub parts : ts ≡ text ++ Symbol End ∷ []
  pub spelled : L levels text x

-- some text that begins with these tokens spells a tree
pub record Begins {A : Type 0} (L : Language A) (front : List Word) : Type 0 where
  pub tail : List Word
  pub tree : A
  pub spells : Spells L (front ++ tail) tree

-- The tokens before the last n begin a text, and with the next one they begin none.
pub record UnexpectedIn {A : Type 0} (L : Language A) (ts : List Word) (n : ℕ) : Type 0 where
  pub front : List Word
  pub token : Word
  pub others : List Word
  pub parts : ts ≡ front ++ token ∷ others
  pub place : n ≡ length (token ∷ others)
  pub begins : Begins L front
  pub none : Begins L (front ++ token ∷ []) → ⊥

-- ---- brackets and indents

abbrev pub unopened : Open
unopened = record { brackets = 0; indents = 0 }

abbrev pub bracketed : Open → Open
bracketed n = record n { brackets = n.brackets + 1 }

abbrev pub unbracketed : Open → Open
unbracketed n = record n { brackets = n.brackets - 1 }

-- how many are open behind a token. A bracket that closes none leaves 0 brackets, and never closes an indent.
abbrev pub behind_word : Word → Open → Open
behind_word (Symbol OpenRound) n = bracketed n
behind_word (Symbol OpenSquare) n = bracketed n
behind_word (Symbol OpenCurly) n = bracketed n
behind_word (Symbol CloseRound) n = unbracketed n
behind_word (Symbol CloseSquare) n = unbracketed n
behind_word (Symbol CloseCurly) n = unbracketed n
behind_word (Symbol Indent) n = record n { indents = n.indents + 1 }
behind_word (Symbol Dedent) n = record n { indents = n.indents - 1 }
behind_word _ n = n

-- brackets and indents together
abbrev pub open_count : Open → ℕ
open_count n = n.brackets + n.indents

-- at no token more than d are open, where these are at the start
abbrev pub Shallow : ℕ → Open → List Word → Type 0
Shallow d n [] = Unit {0}
Shallow d n (t ∷ ts) = (open_count (behind_word t n) ≤ d) × Shallow d (behind_word t n) ts

-- the last `left` tokens begin with the first at which more than d are open
abbrev pub DeepAt : ℕ → Open → List Word → ℕ → Type 0
DeepAt d n [] left = ⊥
DeepAt d n (t ∷ ts) left =
    ((d < open_count (behind_word t n)) × (left ≡ suc (length ts)))
    ⊎ ((open_count (behind_word t n) ≤ d) × DeepAt d (behind_word t n) ts left)

-- ---- sources

-- the tokens of a source, as the grammar sees them
abbrev pub words_of : List ℕ → List Token → List Word
words_of source tokens = map (word_of source) tokens

-- At most 64 brackets and indents are open at once, and the tokens spell the tree.
pub record SpellsIn {A : Type 0} (L : Language A) (source : List ℕ) (x : A) : Type 0 where
  pub tokens : List Token
  pub lexed : tokens_of source ≡ Ok tokens
  pub shallow : Shallow 64 unopened (words_of source tokens)
  pub spells : Spells L (words_of source tokens) x

-- the place is that of the token with which the last n tokens begin
pub record PlaceOf (tokens : List Token) (n place : ℕ) : Type 0 where
  pub front : List Token
  pub token : Token
  pub others : List Token
  pub parts : tokens ≡ front ++ token ∷ others
  pub count : n ≡ length (token ∷ others)
  pub is : place ≡ token.at

-- The first token at which more than 64 brackets and indents are open stands at this place.
pub record NestedAt (source : List ℕ) (place : ℕ) : Type 0 where
  pub tokens : List Token
  pub lexed : tokens_of source ≡ Ok tokens
  pub left : ℕ
  pub deep : DeepAt 64 unopened (words_of source tokens) left
  pub at : PlaceOf tokens left place

-- The first token that no continuation allows stands at this place.
pub record UnexpectedAt {A : Type 0} (L : Language A) (source : List ℕ) (place : ℕ) : Type 0 where
  pub tokens : List Token
  pub lexed : tokens_of source ≡ Ok tokens
  pub shallow : Shallow 64 unopened (words_of source tokens)
  pub left : ℕ
  pub unexpected : UnexpectedIn L (words_of source tokens) left
  pub at : PlaceOf tokens left place

-- what is said of a source before its tokens are parsed
abbrev pub Unread : List ℕ → ParseRefusal → Type 0
Unread source (Lex e) = tokens_of source ≡ Err e
Unread source (TooNested place) = NestedAt source place
Unread source _ = ⊥

-- What a source is refused for. No source is refused for want of memory, and only formulas have loops and printed texts.
abbrev pub Refused : {A : Type 0} → Language A → List ℕ → ParseRefusal → Type 0
Refused L source (Lex e) = tokens_of source ≡ Err e
Refused L source (TooNested place) = NestedAt source place
Refused L source (Unexpected place) = UnexpectedAt L source place
Refused L source TooManyLoops = ⊥
Refused L source PrintsTooLong = ⊥
Refused L source NoMemory = ⊥

-- the answer for a source
abbrev pub Answers : {A : Type 0} → Language A → List ℕ → Result A ParseRefusal → Type 0
Answers L source (Ok x) = SpellsIn L source x
Answers L source (Err e) = Refused L source e

-- the answer is this one, unless there is no memory
abbrev pub Unless : {A : Type 0} → Result A ParseRefusal → Result A ParseRefusal → Type 0
Unless answer (Ok x) = answer ≡ Ok x
Unless answer (Err e) = e ≢ NoMemory → answer ≡ Err e

-- a trouble of the lexer, as the parsers hand it on
abbrev pub of_lex : LexRefusal → ParseRefusal
of_lex lex.NoMemory = NoMemory
of_lex e = Lex e

-- what is known of a source whose tokens can be parsed
pub record IsOpened (source : List ℕ) (tokens : List Token) (words : List Word) : Type 0 where
  pub lexed : tokens_of source ≡ Ok tokens
  pub are : words ≡ words_of source tokens
  pub shallow : Shallow 64 unopened words

-- the count of a trouble is that of a token
abbrev pub InText : ℕ → Trouble → Type 0
InText len (trouble.Unexpected n) = (0 < n) × (n ≤ len)
InText len trouble.NoMemory = Unit {0}

-- the refusal for a trouble
abbrev pub Placed : List Token → Trouble → ParseRefusal → Type 0
Placed tokens (trouble.Unexpected n) (Unexpected place) = PlaceOf tokens n place
Placed tokens (trouble.Unexpected n) _ = ⊥
Placed tokens trouble.NoMemory e = e ≡ NoMemory
