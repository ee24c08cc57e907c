-- What the rules of the grammar are made of: which tokens spell which value.
use Rattle.std.specs.Prelude.{ℕ, zero, suc, List, [], ◌∷◌, ◌++◌}
use Rattle.mx_grammar.specs.declared.word.Word.{Word}
use Rattle.mx_grammar.specs.declared.word.Word.TheVariants.{Symbol}
use Rattle.mx_grammar.specs.declared.word.Symbol.TheVariants.{Comma, Newline}

abbrev pub Spelling : Type 0 → Type 1
Spelling A = List Word → A → Type 0

-- any number of parts, each behind the one before
pub data Parts {A : Type 0} (R : Spelling A) : List Word → List A → Type 0 where
  none : Parts R [] []
  more : {u v : List Word} {x : A} {xs : List A} → R u x → Parts R v xs → Parts R (u ++ v) (x ∷ xs)

-- any number of items with commas between, and maybe one behind the last
pub data Listed {A : Type 0} (R : Spelling A) : List Word → List A → Type 0 where
  none : Listed R [] []
  one : {u : List Word} {x : A} → R u x → Listed R u (x ∷ [])
  more : {u v : List Word} {x : A} {xs : List A} → R u x → Listed R v xs → Listed R (u ++ Symbol Comma ∷ v) (x ∷ xs)

-- A rule says what its form spells, where it is told what spells the parts of it that stand inside brackets.
abbrev pub RuleOf : Type 0 → Type 1
RuleOf A = Spelling A → Spelling A

abbrev pub Never : {A : Type 0} → Spelling A
Never u x = ⊥

-- in so many levels, each inside a bracket of the one above
abbrev pub Within : {A : Type 0} → RuleOf A → ℕ → Spelling A
Within rule zero = Never
Within rule (suc d) = rule (Within rule d)

-- a line alone
pub data Line {A : Type 0} (R : Spelling A) : List Word → A → Type 0 where
  line : {u : List Word} {x : A} → R u x → Line R (u ++ Symbol Newline ∷ []) x
