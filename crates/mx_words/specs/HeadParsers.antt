-- What the code of heads computes.
use Rattle.std.specs.Prelude.{ℕ, List, [], Result}
use Rattle.mx_grammar.specs.declared.word.Symbol.{Symbol}
use Rattle.mx_grammar.specs.declared.word.Symbol.TheVariants as symbol
use Rattle.mx_grammar.specs.Words.{is}
use Rattle.mx_grammar.specs.declared.trouble.Trouble.{Trouble}
use Rattle.mx_grammar.specs.Reading.{Words, Parser, whole, ◌>>=◌, ◌>>◌, pure, accept, expect, choose, many}
use Rattle.mx_grammar.specs.AddressParsers.{name_of}
use Rattle.mx_words.specs.declared.head.Target.{Target}
use Rattle.mx_words.specs.declared.head.HeadForm.{HeadForm}
use Rattle.mx_words.specs.declared.head.HeadForm.TheVariants as form
use Rattle.mx_words.specs.declared.table.Owner.{Owner}
use Rattle.mx_words.specs.declared.table.Owner.TheVariants as owner
use Rattle.mx_words.specs.Heads.{target_of}

abbrev pub further : Parser (List ℕ)
further = expect symbol.Dot >> accept name_of

abbrev pub names_further : Parser (List (List ℕ))
names_further = many (is symbol.Dot) further

unfoldable pub target : Parser Target
target = accept name_of >>= λ n. names_further >>= λ ms. pure (target_of n ms)

-- a command's word
unfoldable pub word : Parser (Unit {0})
word = choose (is symbol.Unused) (expect symbol.Unused) (accept name_of >> pure tt)

-- a command's word, and what stands behind it
abbrev pub worded : {A : Type 0} → Parser A → Parser A
worded p = word >> p

-- with a symbol behind it
abbrev pub ended : {A : Type 0} → Symbol → Parser A → Parser A
ended s p = p >>= λ x. expect s >> pure x

abbrev pub owned : Owner → Parser Target
owned owner.Space = target
owned owner.Model = accept name_of >>= λ n. pure (target_of n [])

-- what stands behind the word
abbrev pub named_by : HeadForm → Parser Target
named_by form.Names = target
named_by form.Opened = ended symbol.OpenRound target
named_by form.Name = owned owner.Model
named_by (form.Reference o) = ended symbol.Assign (owned o)

abbrev pub head_by : HeadForm → Parser Target
head_by f = worded (named_by f)

-- what ends a line that is a whole text
abbrev pub line_end : Words → Result (Unit {0}) Trouble
line_end ts = whole ((expect symbol.Newline >> expect symbol.End) ts)
