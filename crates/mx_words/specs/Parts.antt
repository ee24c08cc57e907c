-- A part of a command that is in a small language of its own, as the names of a head are: what it says, and why it is refused.
use Rattle.std.specs.Prelude.{◌≡◌, ℕ, ◌+◌, Bool, true, false, List, Result, Ok, Err}
use Rattle.mx_lex.specs.declared.Token.{Token}
use Rattle.mx_lex.specs.declared.LexRefusal.{LexRefusal}
use Rattle.mx_lex.specs.declared.LexRefusal.TheVariants.{TooLong, BadByte, BadNumber, BadText, BadIndent, NoMemory}
use Rattle.mx_lex.specs.Lexing.{tokens_of}
use Rattle.mx_grammar.specs.declared.word.Word.{Word}
use Rattle.mx_grammar.specs.declared.refusal.ParseRefusal.TheVariants.{Lex, TooNested}
use Rattle.mx_grammar.specs.declared.trouble.Trouble.{Trouble}
use Rattle.mx_grammar.specs.declared.trouble.Trouble.TheVariants as trouble
use Rattle.mx_grammar.specs.Spelling.{Language, Spells, UnexpectedIn, PlaceOf, Shallow, NestedAt, unopened, words_of}
use Rattle.mx_words.specs.declared.command.Command.{Command}
use Rattle.mx_words.specs.declared.command.FormRefusal.{FormRefusal}
use Rattle.mx_words.specs.declared.command.FormRefusal.TheVariants.{BadForm, Parse}

-- a lexing trouble of a text with so many bytes in front of it; a line stays the same
abbrev pub moved : ℕ → LexRefusal → LexRefusal
moved lead (BadByte place) = BadByte (lead + place)
moved lead (BadNumber place) = BadNumber (lead + place)
moved lead (BadText place) = BadText (lead + place)
moved lead (BadIndent line) = BadIndent line
moved lead TooLong = TooLong
moved lead NoMemory = NoMemory

-- at most 64 brackets are open at once, where that is asked
abbrev pub IsBounded : Bool → List Word → Type 0
IsBounded true words = Shallow 64 unopened words
IsBounded false words = Unit {0}

-- the tokens of a part that can be parsed
pub record IsRead (bounded : Bool) (part : List ℕ) (tokens : List Token) (words : List Word) : Type 0 where
  pub lexed : tokens_of part ≡ Ok tokens
  pub are : words ≡ words_of part tokens
  pub shallow : IsBounded bounded words

-- the tokens of the part spell this
pub record Says {A : Type 0} (L : Language A) (bounded : Bool) (part : List ℕ) (x : A) : Type 0 where
  pub tokens : List Token
  pub words : List Word
  pub read : IsRead bounded part tokens words
  pub spells : Spells L words x

-- the first token that the language does not allow stands at this place
pub record MisplacedAt {A : Type 0} (L : Language A) (bounded : Bool) (part : List ℕ) (place : ℕ) : Type 0 where
  pub tokens : List Token
  pub words : List Word
  pub read : IsRead bounded part tokens words
  pub left : ℕ
  pub unexpected : UnexpectedIn L words left
  pub at : PlaceOf tokens left place

-- why the tokens of a part with so many bytes in front of it can't be parsed: a lexing trouble anywhere, and then brackets
pub data Unreadable (bounded : Bool) (lead : ℕ) (part : List ℕ) : FormRefusal → Type 0 where
  lexing : {e : LexRefusal} → tokens_of part ≡ Err e → Unreadable bounded lead part (Parse (Lex (moved lead e)))
  nested : {place : ℕ} → bounded ≡ true → NestedAt part place → Unreadable bounded lead part (Parse (TooNested (lead + place)))

-- why a part with so many bytes in front of it is refused: its tokens can't be parsed, and then a token
pub data PartRefused {A : Type 0} (L : Language A) (bounded : Bool) (lead : ℕ) (part : List ℕ) : FormRefusal → Type 0 where
  unread : {e : FormRefusal} → Unreadable bounded lead part e → PartRefused L bounded lead part e
  misplaced : {place : ℕ} → MisplacedAt L bounded part place → PartRefused L bounded lead part (BadForm (lead + place))

-- the answer for a part
abbrev pub PartAnswers : {A : Type 0} → Language A → Bool → ℕ → List ℕ → Result A FormRefusal → Type 0
PartAnswers L bounded lead part (Ok x) = Says L bounded part x
PartAnswers L bounded lead part (Err e) = PartRefused L bounded lead part e

-- the refusal for a trouble among the tokens of a part
abbrev pub Misplaced : ℕ → List Token → Trouble → FormRefusal → Type 0
Misplaced lead tokens (trouble.Unexpected left) e = (place : ℕ) × PlaceOf tokens left place × (e ≡ BadForm (lead + place))
Misplaced lead tokens trouble.NoMemory e = ⊥

-- ---- one part after the other

-- the answer for a command's text
abbrev pub Answer : Type 0
Answer = Result Command FormRefusal

-- the answer for a part, and the command's by what that is
pub record Sequel {R : Type 0} (First : R → Type 0) (Next : R → Answer → Type 0) (answer : Answer) : Type 0 where
  pub part : R
  pub first : First part
  pub rest : Next part answer

-- what follows a part, where it is not refused
abbrev pub Onward : {A : Type 0} → (A → Answer → Type 0) → Result A FormRefusal → Answer → Type 0
Onward Next (Ok x) answer = Next x answer
Onward Next (Err e) answer = answer ≡ Err e

-- the last part decides
abbrev pub Decides : {R : Type 0} → (R → Type 0) → (R → Answer) → Answer → Type 0
Decides First done = Sequel First (λ r answer. answer ≡ done r)
