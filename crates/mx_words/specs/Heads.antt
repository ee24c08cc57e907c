-- The heads of commands that name cells.
use Rattle.std.specs.Prelude.{ℕ, List, [], ◌∷◌, ◌++◌, codes}
use Rattle.mx_grammar.specs.declared.word.Word.{Word}
use Rattle.mx_grammar.specs.declared.word.Word.TheVariants.{Name, Symbol}
use Rattle.mx_grammar.specs.declared.word.Symbol.TheVariants as symbol
use Rattle.mx_grammar.specs.Grammar.{Spelling, Parts, Line}
use Rattle.mx_grammar.specs.Spelling.{Language}
use Rattle.mx_words.specs.declared.head.Target.{Target}
use Rattle.mx_words.specs.declared.head.HeadForm.{HeadForm}
use Rattle.mx_words.specs.declared.head.HeadForm.TheVariants as form
use Rattle.mx_words.specs.declared.table.Owner.{Owner}
use Rattle.mx_words.specs.declared.table.Owner.TheVariants as owner
use Rattle.mx_words.specs.Combined.{Mapped, NameText, Ended, Worded}

-- the cells of the last name, in the space of the names before it
abbrev pub target_of : List ℕ → List (List ℕ) → Target
target_of name [] = record { path = []; name = name }
target_of name (next ∷ further) = record { path = name ∷ (target_of next further).path; name = (target_of next further).name }

-- without a path the cells are in the space `Main`
abbrev pub space_of : List (List ℕ) → List (List ℕ)
space_of [] = codes "Main" ∷ []
space_of (name ∷ path) = name ∷ path

-- the path of all names
abbrev pub whole_of : Target → List (List ℕ)
whole_of t = t.path ++ t.name ∷ []

pub data Further : List Word → List ℕ → Type 0 where
  further : {n : List ℕ} → Further (Symbol symbol.Dot ∷ Name n ∷ []) n

-- names with points between
pub data TargetText : List Word → Target → Type 0 where
  target : {n : List ℕ} {u : List Word} {further : List (List ℕ)} → Parts Further u further → TargetText (Name n ∷ u) (target_of n further)

-- a reference's name: of a space, with its path, or of the model
abbrev pub OwnedText : Owner → Spelling Target
OwnedText owner.Space = TargetText
OwnedText owner.Model = Mapped NameText (λ n. target_of n [])

-- A command's word and what it names: cells with the opening parenthesis of their formula behind them or in the text, one name, or
-- a reference with `=`.
abbrev pub HeadText : HeadForm → Spelling Target
HeadText form.Names = Worded TargetText
HeadText form.Opened = Worded (Ended symbol.OpenRound TargetText)
HeadText form.Name = Worded (OwnedText owner.Model)
HeadText (form.Reference o) = Worded (Ended symbol.Assign (OwnedText o))

abbrev pub head_text : HeadForm → Language Target
head_text f levels = Line (HeadText f)
