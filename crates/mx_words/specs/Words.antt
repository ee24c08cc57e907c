-- The words of commands.
use Rattle.std.specs.Prelude.{ℕ, Bool, true, false, List, [], ◌∷◌, ◌==◌, Option, None, Some, if◌then◌else◌, codes}
use Rattle.std.specs.Cmp.Lexicographic.{pointwise}
use Rattle.mx_words.specs.declared.table.CommandWord.{CommandWord}
use Rattle.mx_words.specs.declared.table.CommandWord.TheVariants as words
use Rattle.mx_words.specs.declared.table.Form.{Form}
use Rattle.mx_words.specs.declared.table.Form.TheVariants as form
use Rattle.mx_words.specs.declared.table.Phrase.TheVariants as phrase
use Rattle.mx_words.specs.declared.table.Named.{Named}
use Rattle.mx_words.specs.declared.table.Named.TheVariants as named
use Rattle.mx_words.specs.declared.table.Owner.TheVariants as owner
use Rattle.mx_words.specs.declared.table.Asked.TheVariants as asked
use Rattle.mx_words.specs.declared.table.Rest.{Rest}
use Rattle.mx_words.specs.Texts.{first_word}

-- every word, in order of the table
abbrev pub every_word : List CommandWord
every_word =
    words.Space ∷ words.Unspace ∷ words.Bases ∷ words.Cells ∷ words.Def ∷ words.Uncells ∷ words.Allow ∷ words.Disallow ∷ words.Ref ∷ words.Unref ∷ words.Params ∷ words.Unparams
    ∷ words.Global ∷ words.Unglobal ∷ words.Input ∷ words.Uninput ∷ words.Table ∷ words.Eval ∷ words.Precedents ∷ words.Succs ∷ words.Held ∷ words.Clear ∷ words.Limit ∷ words.Order ∷ []

-- a command of one line, and one that takes further lines
abbrev pub one : Form → Rest
one f = record { form = f; takes_lines = false }

abbrev pub several : Form → Rest
several f = record { form = f; takes_lines = true }

abbrev pub names : Named → Form
names n = form.Phrase (phrase.Names n)

-- what stands behind each word
abbrev pub rest_of : CommandWord → Rest
rest_of words.Space = one (names named.NewSpace)
rest_of words.Unspace = one (names named.DelSpace)
rest_of words.Bases = one (form.Phrase phrase.Bases)
rest_of words.Cells = several form.Cells
rest_of words.Def = several form.Cells
rest_of words.Uncells = one (names named.DelCells)
rest_of words.Allow = one (names named.Allow)
rest_of words.Disallow = one (names named.Disallow)
rest_of words.Ref = one (form.Reference owner.Space)
rest_of words.Unref = one (names named.DelRef)
rest_of words.Params = several form.Params
rest_of words.Unparams = one (names named.DelParams)
rest_of words.Global = one (form.Reference owner.Model)
rest_of words.Unglobal = one (form.Phrase phrase.DelGlobal)
rest_of words.Input = one form.Input
rest_of words.Uninput = one (form.Node asked.DelInput)
rest_of words.Table = one form.Table
rest_of words.Eval = one (form.Node asked.Value)
rest_of words.Precedents = one (form.Node asked.Precedents)
rest_of words.Succs = one (form.Node asked.Successors)
rest_of words.Held = one (form.Node asked.Held)
rest_of words.Clear = one form.Clear
rest_of words.Limit = one (form.Phrase phrase.Limit)
rest_of words.Order = one (names named.Order)

abbrev pub is_word : CommandWord → List ℕ → Bool
is_word words.Space text = pointwise ◌==◌ text (codes "space")
is_word words.Unspace text = pointwise ◌==◌ text (codes "unspace")
is_word words.Bases text = pointwise ◌==◌ text (codes "bases")
is_word words.Cells text = pointwise ◌==◌ text (codes "cells")
is_word words.Def text = pointwise ◌==◌ text (codes "def")
is_word words.Uncells text = pointwise ◌==◌ text (codes "uncells")
is_word words.Allow text = pointwise ◌==◌ text (codes "allow")
is_word words.Disallow text = pointwise ◌==◌ text (codes "disallow")
is_word words.Ref text = pointwise ◌==◌ text (codes "ref")
is_word words.Unref text = pointwise ◌==◌ text (codes "unref")
is_word words.Params text = pointwise ◌==◌ text (codes "params")
is_word words.Unparams text = pointwise ◌==◌ text (codes "unparams")
is_word words.Global text = pointwise ◌==◌ text (codes "global")
is_word words.Unglobal text = pointwise ◌==◌ text (codes "unglobal")
is_word words.Input text = pointwise ◌==◌ text (codes "input")
is_word words.Uninput text = pointwise ◌==◌ text (codes "uninput")
is_word words.Table text = pointwise ◌==◌ text (codes "table")
is_word words.Eval text = pointwise ◌==◌ text (codes "eval")
is_word words.Precedents text = pointwise ◌==◌ text (codes "precedents")
is_word words.Succs text = pointwise ◌==◌ text (codes "succs")
is_word words.Held text = pointwise ◌==◌ text (codes "held")
is_word words.Clear text = pointwise ◌==◌ text (codes "clear")
is_word words.Limit text = pointwise ◌==◌ text (codes "limit")
is_word words.Order text = pointwise ◌==◌ text (codes "order")

-- which of these words a text is
abbrev pub word_of : List CommandWord → List ℕ → Option CommandWord
word_of [] text = None
word_of (w ∷ ws) text = if is_word w text then Some w else word_of ws text

abbrev pub goes_on : Option CommandWord → Bool
goes_on None = false
goes_on (Some w) = (rest_of w).takes_lines

-- the first word of a text takes further lines
abbrev pub takes_lines : List CommandWord → List ℕ → Bool
takes_lines words text = goes_on (word_of words (first_word text))
