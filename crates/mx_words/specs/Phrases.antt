-- What stands behind the words of commands that are in small languages of their own, and what it says.
use Rattle.std.specs.Prelude.{ℕ, ◌+◌, ◌<◌, ◌^◌, Bool, true, false, List, [], ◌∷◌, None, codes}
use Rattle.mx_grammar.specs.declared.word.Word.{Word}
use Rattle.mx_grammar.specs.declared.word.Word.TheVariants.{Int}
use Rattle.mx_grammar.specs.declared.word.Symbol.TheVariants as symbol
use Rattle.mx_grammar.specs.Grammar.{Spelling, Within, Line}
use Rattle.mx_grammar.specs.Literals.{Literal, Addr}
use Rattle.mx_value.specs.declared.value.Segment.{Segment}
use Rattle.mx_edit.specs.declared.scope.Scope.TheVariants as scope
use Rattle.mx_grammar.specs.Spelling.{Language}
use Rattle.mx_edit.specs.declared.edit.Edit.TheVariants as edit
use Rattle.mx_edit.specs.declared.reference.RefValue.{RefValue}
use Rattle.mx_edit.specs.declared.reference.RefValue.TheVariants as value
use Rattle.mx_words.specs.declared.command.Command.{Command}
use Rattle.mx_words.specs.declared.command.Command.TheVariants as command
use Rattle.mx_words.specs.declared.head.Target.{Target}
use Rattle.mx_words.specs.declared.table.Named.{Named}
use Rattle.mx_words.specs.declared.table.Named.TheVariants as task
use Rattle.mx_words.specs.declared.table.Phrase.{Phrase}
use Rattle.mx_words.specs.declared.table.Phrase.TheVariants as phrase
use Rattle.mx_words.specs.declared.table.Owner.{Owner}
use Rattle.mx_words.specs.declared.table.Owner.TheVariants as owner
use Rattle.mx_words.specs.declared.table.Reference.{Reference}
use Rattle.mx_words.specs.declared.table.Reference.TheVariants as reference
use Rattle.mx_words.specs.Combined.{Mapped, Both, NameText, TheName, After, Ended, Separated, Maybe, Worded}
use Rattle.mx_words.specs.Heads.{TargetText, OwnedText, space_of, whole_of}

-- what a word does with the names behind it, which are a path, or cells with the path of their space
abbrev pub named_command : Named → Target → Command
named_command task.NewSpace t = command.Edit (edit.NewSpace t.path t.name)
named_command task.DelSpace t = command.Edit (edit.DelSpace (whole_of t))
named_command task.DelParams t = command.Edit (edit.SetParams (whole_of t) None)
named_command task.Order t = command.Order (whole_of t)
named_command task.DelCells t = command.Edit (edit.DelCells (space_of t.path) t.name)
named_command task.Allow t = command.Edit (edit.SetAllowNone (space_of t.path) t.name true)
named_command task.Disallow t = command.Edit (edit.SetAllowNone (space_of t.path) t.name false)
named_command task.DelRef t = command.Edit (edit.DelRef (space_of t.path) t.name)

-- the model's reference of a name
abbrev pub no_global : List ℕ → Command
no_global name = command.Edit (edit.DelRef [] name)

-- a number of 32 bits
pub data LimitText : List Word → ℕ → Type 0 where
  limit : {n : ℕ} → n < 2 ^ 32 → LimitText (Int n ∷ []) n

-- a space and its bases
abbrev pub PathText : Spelling (List (List ℕ))
PathText = Mapped TargetText whole_of

abbrev pub set_bases : List (List ℕ) → List (List (List ℕ)) → Command
set_bases path bases = command.Edit (edit.SetBases path bases)

abbrev pub BasesText : Spelling Command
BasesText = Both PathText (Maybe symbol.Colon (Separated symbol.Comma PathText)) set_bases

-- a reference that is no literal: the word of its kind, and what stands behind that
abbrev pub fixed_to : Bool → Target → RefValue
fixed_to fixed t = value.Target (whole_of t) fixed

abbrev pub ReferenceText : Reference → Spelling RefValue
ReferenceText reference.Table = After (codes "table") (Mapped NameText value.Table)
ReferenceText reference.To = After (codes "to") (Mapped TargetText (fixed_to false))
ReferenceText reference.Abs = After (codes "abs") (Mapped TargetText (fixed_to true))

-- the path of the space that has a reference, which is empty for the model
abbrev pub owner_path : Owner → List (List ℕ) → List (List ℕ)
owner_path owner.Space path = space_of path
owner_path owner.Model path = path

abbrev pub set_ref : Owner → Target → RefValue → Command
set_ref o t v = command.Edit (edit.SetRef (owner_path o t.path) t.name v)

abbrev pub clear_all : Unit {0} → Command
clear_all name = command.Clear scope.All

-- what stands behind the word
abbrev pub PhraseText : Phrase → ℕ → Spelling Command
PhraseText (phrase.Names n) levels = Mapped TargetText (named_command n)
PhraseText phrase.DelGlobal levels = Mapped NameText no_global
PhraseText phrase.ClearAll levels = Mapped (TheName (codes "all")) clear_all
PhraseText phrase.Limit levels = Mapped LimitText command.Limit
PhraseText phrase.Bases levels = BasesText
PhraseText (phrase.Refers o r) levels = Both (Ended symbol.Assign (OwnedText o)) (ReferenceText r) (set_ref o)

-- the word and what stands behind it, on a line
abbrev pub phrase_text : Phrase → Language Command
phrase_text p levels = Line (Worded (PhraseText p levels))

-- a command's word, this name and an address
abbrev pub address_text : List ℕ → Language (List Segment)
address_text name levels = Line (Worded (After name (Addr (Within Literal (levels + 1)))))
