-- Each edit that a command says is one that was read.
use Rattle.std.proofs.Common.{◌≡◌, ℕ, ◌+◌, ◌-◌, take, drop, length, List, [], ◌∷◌, Bool, true, false, if◌then◌else◌, Option, Some, None, Result, Ok, Err, sym, subst}
use Rattle.mx_value.specs.declared.value.Value.{Value}
use Rattle.mx_value.specs.declared.value.Segment.{Segment}
use Rattle.mx_value.specs.declared.value.Segment.TheVariants as segment
use Rattle.mx_value.specs.declared.node.Node.{Node}
use Rattle.mx_value.specs.declared.node.Node.TheVariants.{Cell, Item}
use Rattle.mx_syntax.specs.declared.stmt.Formula.{Formula}
use Rattle.mx_syntax.specs.declared.stmt.Params.{Params}
use Rattle.mx_grammar.specs.declared.refusal.ParseRefusal.{ParseRefusal}
use Rattle.mx_grammar.specs.declared.word.Word.{Word}
use Rattle.mx_grammar.specs.Grammar.{Line}
use Rattle.mx_grammar.specs.Limits.{AnswersWithin}
use Rattle.mx_parse.specs.Formulas.{formula_text}
use Rattle.mx_parse.specs.FormulaLimits.{formula_limits}
use Rattle.mx_words.specs.declared.command.Command.{Command}
use Rattle.mx_words.specs.declared.command.Command.TheVariants as command
use Rattle.mx_words.specs.declared.command.FormRefusal.{FormRefusal}
use Rattle.mx_words.specs.declared.command.FormRefusal.TheVariants.{Parse}
use Rattle.mx_words.specs.declared.head.Target.{Target}
use Rattle.mx_words.specs.declared.table.Asked.{Asked}
use Rattle.mx_words.specs.declared.table.Asked.TheVariants as asked
use Rattle.mx_words.specs.declared.table.Clearing.{Clearing}
use Rattle.mx_words.specs.declared.table.Clearing.TheVariants as clearing
use Rattle.mx_words.specs.declared.table.CommandWord.{CommandWord}
use Rattle.mx_words.specs.declared.table.Form.{Form}
use Rattle.mx_words.specs.declared.table.Form.TheVariants as form
use Rattle.mx_words.specs.declared.table.Named.{Named}
use Rattle.mx_words.specs.declared.table.Named.TheVariants as task
use Rattle.mx_words.specs.declared.table.Owner.{Owner}
use Rattle.mx_words.specs.declared.table.Phrase.{Phrase}
use Rattle.mx_words.specs.declared.table.Phrase.TheVariants as phrase
use Rattle.mx_words.specs.declared.table.Reference.{Reference}
use Rattle.mx_words.specs.Combined.{Mapped, Both, Worded}
use Rattle.mx_words.specs.Parts.{Answer, Onward, Decides, PartAnswers}
use Rattle.mx_words.specs.Phrases.{PhraseText, phrase_text, named_command}
use Rattle.mx_words.specs.Texts.{spaces, behind_spaces, first_word, formula_of, first_name}
use Rattle.mx_words.specs.Words.{rest_of, word_of}
use Rattle.mx_script.specs.Commands.{defined, parametrized, uninput, asked_command, is_alone, asked_of, Asks, argument_of, place_behind, has_literal, input_of, Sets, ref_value, reference_of, referred, RefersBy, clearing_of, cleared_of, newline_of, cells_by, cells_at, ClearsBy, from_file, FromFile, ReadsTable, ReadsRest, ReadsBy}
use Rattle.mx_model.specs.Literals.{IsRead}
use Rattle.mx_command_laws.specs.Edits.{EditsAreRead}
use Rattle.mx_command_laws.proofs.Defaults.{spelled_literal}

-- an edit of the command is one that was read
abbrev OfCommand : Command → Type 0
OfCommand (command.Edit e) = IsRead e
OfCommand _ = Unit {0}

-- and one of the answer
abbrev Reads : Answer → Type 0
Reads (Ok c) = OfCommand c
Reads (Err e) = Unit {0}

same_reads : (answer other : Answer) → answer ≡ other → Reads other → Reads answer
same_reads answer other e r = subst Reads (sym e) r

chosen : (b : Bool) (given other : Answer) → Reads given → Reads other → Reads (if b then given else other)
chosen true given other g o = g
chosen false given other g o = o

onward_reads : {A : Type 0} (Next : A → Answer → Type 0) (r : Result A FormRefusal) (answer : Answer) → ((x : A) → Next x answer → Reads answer) → Onward Next r answer → Reads answer
onward_reads Next (Ok x) answer k h = k x h
onward_reads Next (Err e) answer k h = same_reads answer (Err e) h tt

decides_reads : {R : Type 0} (First : R → Type 0) (done : R → Answer) (answer : Answer) → ((r : R) → First r → Reads (done r)) → Decides First done answer → Reads answer
decides_reads First done answer k s = same_reads answer (done s.part) s.rest (k s.part s.first)

-- ---- phrases

named_reads : (n : Named) (t : Target) → OfCommand (named_command n t)
named_reads task.NewSpace t = tt
named_reads task.DelSpace t = tt
named_reads task.DelParams t = tt
named_reads task.Order t = tt
named_reads task.DelCells t = tt
named_reads task.Allow t = tt
named_reads task.Disallow t = tt
named_reads task.DelRef t = tt

phrase_reads : (p : Phrase) (levels : ℕ) (u : List Word) (c : Command) → PhraseText p levels u c → OfCommand c
phrase_reads (phrase.Names n) levels _ _ (Mapped.mapped {u} {x} h) = named_reads n x
phrase_reads phrase.DelGlobal levels _ _ (Mapped.mapped h) = tt
phrase_reads phrase.ClearAll levels _ _ (Mapped.mapped h) = tt
phrase_reads phrase.Limit levels _ _ (Mapped.mapped h) = tt
phrase_reads phrase.Bases levels _ _ (Both.both h k) = tt
phrase_reads (phrase.Refers o r) levels _ _ (Both.both h k) = tt

worded_reads : (p : Phrase) (levels : ℕ) (u : List Word) (c : Command) → Worded (PhraseText p levels) u c → OfCommand c
worded_reads p levels _ c (Worded.named {u = u} h) = phrase_reads p levels u c h
worded_reads p levels _ c (Worded.keyword {u = u} h) = phrase_reads p levels u c h

line_reads : (p : Phrase) (levels : ℕ) (u : List Word) (c : Command) → Line (Worded (PhraseText p levels)) u c → OfCommand c
line_reads p levels _ c (Line.line {u} h) = worded_reads p levels u c h

part_reads : (p : Phrase) (lead : ℕ) (text : List ℕ) (answer : Answer) → PartAnswers (phrase_text p) false lead text answer → Reads answer
part_reads p lead text (Ok c) h = line_reads p h.spells.levels h.spells.text c h.spells.spelled
part_reads p lead text (Err e) h = tt

-- ---- formulas and parameters

defined_reads : (source : List ℕ) (t : Target) (r : Result Formula ParseRefusal) → AnswersWithin formula_text formula_limits source r → Reads (defined t r)
defined_reads source t (Ok f) h = spelled_literal source f h.0
defined_reads source t (Err e) h = tt

parametrized_reads : (t : Target) (r : Result Params ParseRefusal) → Reads (parametrized t r)
parametrized_reads t (Ok p) = tt
parametrized_reads t (Err e) = tt

-- ---- nodes and inputs

uninput_reads : (start : ℕ) (source : List ℕ) (n : Node) → Reads (uninput start source n)
uninput_reads start source (Cell space name args) = tt
uninput_reads start source (Item space args) = tt

command_reads : (a : Asked) (start : ℕ) (source : List ℕ) (n : Node) → Reads (asked_command a start source n)
command_reads asked.Value start source n = tt
command_reads asked.Precedents start source n = tt
command_reads asked.Successors start source n = tt
command_reads asked.Held start source n = tt
command_reads asked.Clear start source n = tt
command_reads asked.DelInput start source n = uninput_reads start source n

asked_reads : (a : Asked) (start : ℕ) (source : List ℕ) (r : Result Node ParseRefusal) → Reads (asked_of a start source r)
asked_reads a start source (Ok n) = command_reads a start source n
asked_reads a start source (Err e) = chosen (is_alone a source) (Ok (command.Held None)) (Err (Parse e)) tt tt

asks_reads : (a : Asked) (start : ℕ) (source : List ℕ) (answer : Answer) → Asks a start source answer → Reads answer
asks_reads a start source answer h = decides_reads _ (asked_of a start source) answer (λ r first. asked_reads a start source r) h

input_reads : (space : List Segment) (name : List ℕ) (args : List Value) (r : Result Value ParseRefusal) → Reads (input_of space name args r)
input_reads space name args (Ok v) = tt
input_reads space name args (Err e) = tt

sets_reads : (start : ℕ) (source : List ℕ) (literal : Bool) (r : Result Node ParseRefusal) (answer : Answer) → Sets start source literal r answer → Reads answer
sets_reads start source literal (Err e) answer h = same_reads answer _ h tt
sets_reads start source true (Ok (Cell space name args)) answer h = decides_reads _ (input_of space name args) answer (λ r first. input_reads space name args r) h
sets_reads start source true (Ok (Item space args)) answer h = same_reads answer _ h tt
sets_reads start source false (Ok n) answer h = same_reads answer _ h tt

-- ---- references

referred_reads : (o : Owner) (t : Target) (r : Result Value ParseRefusal) → Reads (referred o t r)
referred_reads o t (Ok v) = tt
referred_reads o t (Err e) = tt

refers_reads : (r : Option Reference) (o : Owner) (lead : ℕ) (text : List ℕ) (answer : Answer) → RefersBy r o lead text answer → Reads answer
refers_reads (Some r) o lead text answer h = part_reads (phrase.Refers o r) lead text answer h
refers_reads None o lead text answer h = onward_reads _ h.part answer (λ t d. decides_reads _ (referred o t) answer (λ r first. referred_reads o t r) d) h.rest

-- ---- tables from files

from_file_reads : (t : Target) (r : Result (List ℕ) FormRefusal) → Reads (from_file t r)
from_file_reads t (Ok file) = tt
from_file_reads t (Err e) = tt

table_reads : (lead : ℕ) (text : List ℕ) (answer : Answer) → ReadsTable lead text answer → Reads answer
table_reads lead text answer h = onward_reads (FromFile lead text) h.part answer (λ t d. decides_reads _ (from_file t) answer (λ r first. from_file_reads t r) d) h.rest

-- ---- clearings

cells_reads : (place : ℕ) (front last : List Segment) → Reads (cells_by place front last)
cells_reads place front [] = tt
cells_reads place front (segment.Name n ∷ last) = tt
cells_reads place front (s ∷ last) = tt

clears_reads : (c : Clearing) (lead : ℕ) (text : List ℕ) (answer : Answer) → ClearsBy c lead text answer → Reads answer
clears_reads clearing.All lead text answer h = part_reads phrase.ClearAll lead text answer h
clears_reads clearing.Space lead text answer h = onward_reads _ h.part answer (λ a e. same_reads answer _ e tt) h.rest
clears_reads clearing.Cells lead text answer h = onward_reads _ h.part answer (λ a e. same_reads answer (cells_at (lead + newline_of text) a) e (cells_reads (lead + newline_of text) (take (length a - 1) a) (drop (length a - 1) a))) h.rest
clears_reads clearing.Node lead text answer h = asks_reads asked.Clear (lead + place_behind text (cleared_of text)) (cleared_of text) answer h

-- ---- commands

rest_reads : (f : Form) (lead : ℕ) (text : List ℕ) (answer : Answer) → ReadsRest f lead text answer → Reads answer
rest_reads form.Cells lead text answer h = onward_reads _ h.part answer (λ t d. decides_reads _ (defined t) answer (defined_reads (formula_of text) t) d) h.rest
rest_reads form.Params lead text answer h = onward_reads _ h.part answer (λ t d. decides_reads _ (parametrized t) answer (λ r first. parametrized_reads t r) d) h.rest
rest_reads (form.Phrase p) lead text answer h = part_reads p lead text answer h
rest_reads (form.Node a) lead text answer h = asks_reads a (lead + place_behind text (argument_of text)) (argument_of text) answer h
rest_reads form.Input lead text answer h = sets_reads (lead + place_behind text (argument_of text)) (argument_of text) (has_literal (argument_of text)) h.part answer h.rest
rest_reads form.Table lead text answer h = table_reads lead text answer h
rest_reads form.Clear lead text answer h = clears_reads (clearing_of (first_name (argument_of text))) lead text answer h
rest_reads (form.Reference o) lead text answer h = refers_reads (reference_of (first_name (ref_value text))) o lead text answer h

word_reads : (w : Option CommandWord) (lead : ℕ) (text : List ℕ) (answer : Answer) → ReadsBy w lead text answer → Reads answer
word_reads None lead text answer h = same_reads answer _ h tt
word_reads (Some w) lead text answer h = rest_reads (rest_of w).form lead text answer h

pub edits_are_read : EditsAreRead
edits_are_read words text e h = word_reads (word_of words (first_word (behind_spaces text))) (spaces text) (behind_spaces text) (Ok (command.Edit e)) h
