-- What small languages are made of, beside what the grammar's rules are.
use Rattle.std.specs.Prelude.{ℕ, List, [], ◌∷◌, ◌++◌}
use Rattle.mx_grammar.specs.declared.word.Word.{Word}
use Rattle.mx_grammar.specs.declared.word.Word.TheVariants as word
use Rattle.mx_grammar.specs.declared.word.Symbol.{Symbol}
use Rattle.mx_grammar.specs.declared.word.Symbol.TheVariants as symbol
use Rattle.mx_grammar.specs.Grammar.{Spelling, Parts}

-- a function of what is spelled
pub data Mapped {A B : Type 0} (R : Spelling A) (f : A → B) : List Word → B → Type 0 where
  mapped : {u : List Word} {x : A} → R u x → Mapped R f u (f x)

-- one behind the other, as a function of both
pub data Both {A B C : Type 0} (R : Spelling A) (S : Spelling B) (f : A → B → C) : List Word → C → Type 0 where
  both : {u v : List Word} {x : A} {y : B} → R u x → S v y → Both R S f (u ++ v) (f x y)

-- a symbol
pub data Sign (s : Symbol) : List Word → Unit {0} → Type 0 where
  sign : Sign s (word.Symbol s ∷ []) tt

-- one name
pub data NameText : List Word → List ℕ → Type 0 where
  name : {n : List ℕ} → NameText (word.Name n ∷ []) n

-- this name
pub data TheName (n : List ℕ) : List Word → Unit {0} → Type 0 where
  name : TheName n (word.Name n ∷ []) tt

abbrev pub the_first : {A B : Type 0} → A → B → A
the_first x y = x

abbrev pub the_second : {A B : Type 0} → A → B → B
the_second x y = y

-- this name, and what stands behind it
abbrev pub After : {A : Type 0} → List ℕ → Spelling A → Spelling A
After n R = Both (TheName n) R the_second

-- with a symbol behind it
abbrev pub Ended : {A : Type 0} → Symbol → Spelling A → Spelling A
Ended s R = Both R (Sign s) the_first

-- behind a symbol
abbrev pub Behind : {A : Type 0} → Symbol → Spelling A → Spelling A
Behind s R = Both (Sign s) R the_second

abbrev pub cons : {A : Type 0} → A → List A → List A
cons x xs = x ∷ xs

-- at least one, with a symbol between them
abbrev pub Separated : {A : Type 0} → Symbol → Spelling A → Spelling (List A)
Separated s R = Both R (Parts (Behind s R)) cons

-- nothing, or a list behind a symbol
pub data Maybe {A : Type 0} (s : Symbol) (R : Spelling (List A)) : List Word → List A → Type 0 where
  none : Maybe s R [] []
  some : {u : List Word} {xs : List A} → Behind s R u xs → Maybe s R u xs

-- a command's word, which is a name or a keyword that no formula takes, and what stands behind it
pub data Worded {A : Type 0} (R : Spelling A) : List Word → A → Type 0 where
  named : {w : List ℕ} {u : List Word} {x : A} → R u x → Worded R (word.Name w ∷ u) x
  keyword : {u : List Word} {x : A} → R u x → Worded R (word.Symbol symbol.Unused ∷ u) x
