-- What the words of a project's files say: those of the model file lay spaces out, and all others say edits.
use Rattle.std.proofs.Common.{◌≡◌, ℕ, ◌+◌, List, Bool, true, false, if◌then◌else◌, Option, Some, None, Result, Ok, Err, refl, sym, subst}
use Rattle.mx_value.specs.declared.value.Value.{Value}
use Rattle.mx_value.specs.declared.value.Segment.{Segment}
use Rattle.mx_value.specs.declared.node.Node.{Node}
use Rattle.mx_value.specs.declared.node.Node.TheVariants.{Cell, Item}
use Rattle.mx_syntax.specs.declared.stmt.Formula.{Formula}
use Rattle.mx_syntax.specs.declared.stmt.Params.{Params}
use Rattle.mx_grammar.specs.declared.refusal.ParseRefusal.{ParseRefusal}
use Rattle.mx_grammar.specs.declared.word.Word.{Word}
use Rattle.mx_grammar.specs.Grammar.{Line}
use Rattle.mx_words.specs.declared.command.Command.{Command}
use Rattle.mx_words.specs.declared.command.FormRefusal.{FormRefusal}
use Rattle.mx_words.specs.declared.head.Target.{Target}
use Rattle.mx_words.specs.declared.table.CommandWord.{CommandWord}
use Rattle.mx_words.specs.declared.table.CommandWord.TheVariants as word
use Rattle.mx_words.specs.declared.table.Named.TheVariants as task
use Rattle.mx_words.specs.declared.table.Owner.{Owner}
use Rattle.mx_words.specs.declared.table.Owner.TheVariants as owner
use Rattle.mx_words.specs.declared.table.Phrase.{Phrase}
use Rattle.mx_words.specs.declared.table.Phrase.TheVariants as phrase
use Rattle.mx_words.specs.declared.table.Reference.{Reference}
use Rattle.mx_words.specs.Combined.{Mapped, Both, Worded}
use Rattle.mx_words.specs.Parts.{Answer, Onward, Decides, PartAnswers}
use Rattle.mx_words.specs.Phrases.{PhraseText, phrase_text}
use Rattle.mx_words.specs.Texts.{spaces, behind_spaces, first_word, first_name}
use Rattle.mx_words.specs.Words.{is_word}
use Rattle.mx_script.specs.Commands.{defined, parametrized, argument_of, place_behind, has_literal, input_of, Sets, ref_value, reference_of, referred, RefersBy, ReadsBy}
use Rattle.mx_project.specs.Folder.{space_words, refs_words, inputs_words}
use Rattle.mx_project.specs.Reading.{IsEdit, SayEdits, Lays, SayLines}

-- ---- answers

-- what is said of an answer's command
abbrev Of : (Command → Type 0) → Answer → Type 0
Of P (Ok c) = P c
Of P (Err e) = Unit {0}

module _ (P : Command → Type 0) where
  same_of : (answer other : Answer) → answer ≡ other → Of P other → Of P answer
  same_of answer other e r = subst (Of P) (sym e) r

  onward_of : {A : Type 0} (Next : A → Answer → Type 0) (r : Result A FormRefusal) (answer : Answer) → ((x : A) → Next x answer → Of P answer) → Onward Next r answer → Of P answer
  onward_of Next (Ok x) answer k h = k x h
  onward_of Next (Err e) answer k h = same_of answer (Err e) h tt

  decides_of : {R : Type 0} (First : R → Type 0) (done : R → Answer) (answer : Answer) → ((r : R) → Of P (done r)) → Decides First done answer → Of P answer
  decides_of First done answer k s = same_of answer (done s.part) s.rest (k s.part)

  -- a line in a small language
  module _ (p : Phrase) (says : (levels : ℕ) (u : List Word) (c : Command) → PhraseText p levels u c → P c) where
    worded_of : (levels : ℕ) (u : List Word) (c : Command) → Worded (PhraseText p levels) u c → P c
    worded_of levels _ c (Worded.named {u = u} h) = says levels u c h
    worded_of levels _ c (Worded.keyword {u = u} h) = says levels u c h

    line_of : (levels : ℕ) (u : List Word) (c : Command) → Line (Worded (PhraseText p levels)) u c → P c
    line_of levels _ c (Line.line {u} h) = worded_of levels u c h

    part_of : (lead : ℕ) (text : List ℕ) (answer : Answer) → PartAnswers (phrase_text p) false lead text answer → Of P answer
    part_of lead text (Ok c) h = line_of h.spells.levels h.spells.text c h.spells.spelled
    part_of lead text (Err e) h = tt

  refused_of : (lead : ℕ) (text : List ℕ) (answer : Answer) → ReadsBy None lead text answer → Of P answer
  refused_of lead text answer h = same_of answer _ h tt

-- ---- the model file

space_says : (levels : ℕ) (u : List Word) (c : Command) → PhraseText (phrase.Names task.NewSpace) levels u c → Lays c
space_says levels _ _ (Mapped.mapped {u} {x} h) = tt

bases_say : (levels : ℕ) (u : List Word) (c : Command) → PhraseText phrase.Bases levels u c → Lays c
bases_say levels _ _ (Both.both h k) = tt

model_by : (a b c : Bool) (lead : ℕ) (text : List ℕ) (answer : Answer) → let w : Option CommandWord = if a then Some word.Space else if b then Some word.Bases else if c then Some word.Table else None in
    (w ≡ Some word.Table → ⊥) → ReadsBy w lead text answer → Of Lays answer
model_by true b c lead text answer other h = part_of Lays (phrase.Names task.NewSpace) space_says lead text answer h
model_by false true c lead text answer other h = part_of Lays phrase.Bases bases_say lead text answer h
model_by false false true lead text answer other h = absurd (other refl)
model_by false false false lead text answer other h = refused_of Lays lead text answer h

pub model_lays : SayLines
model_lays text c other h =
    let first = first_word (behind_spaces text) in
    model_by (is_word word.Space first) (is_word word.Bases first) (is_word word.Table first) (spaces text) (behind_spaces text) (Ok c) other h

-- ---- files of edits

allow_says : (levels : ℕ) (u : List Word) (c : Command) → PhraseText (phrase.Names task.Allow) levels u c → IsEdit c
allow_says levels _ _ (Mapped.mapped {u} {x} h) = tt

refers_say : (o : Owner) (r : Reference) (levels : ℕ) (u : List Word) (c : Command) → PhraseText (phrase.Refers o r) levels u c → IsEdit c
refers_say o r levels _ _ (Both.both h k) = tt

defined_says : (t : Target) (r : Result Formula ParseRefusal) → Of IsEdit (defined t r)
defined_says t (Ok f) = tt
defined_says t (Err e) = tt

parametrized_says : (t : Target) (r : Result Params ParseRefusal) → Of IsEdit (parametrized t r)
parametrized_says t (Ok p) = tt
parametrized_says t (Err e) = tt

referred_says : (o : Owner) (t : Target) (r : Result Value ParseRefusal) → Of IsEdit (referred o t r)
referred_says o t (Ok v) = tt
referred_says o t (Err e) = tt

input_says : (space : List Segment) (name : List ℕ) (args : List Value) (r : Result Value ParseRefusal) → Of IsEdit (input_of space name args r)
input_says space name args (Ok v) = tt
input_says space name args (Err e) = tt

sets_say : (start : ℕ) (source : List ℕ) (literal : Bool) (r : Result Node ParseRefusal) (answer : Answer) → Sets start source literal r answer → Of IsEdit answer
sets_say start source literal (Err e) answer h = same_of IsEdit answer _ h tt
sets_say start source true (Ok (Cell space name args)) answer h = decides_of IsEdit _ (input_of space name args) answer (input_says space name args) h
sets_say start source true (Ok (Item space args)) answer h = same_of IsEdit answer _ h tt
sets_say start source false (Ok n) answer h = same_of IsEdit answer _ h tt

refer_by : (r : Option Reference) (o : Owner) (lead : ℕ) (text : List ℕ) (answer : Answer) → RefersBy r o lead text answer → Of IsEdit answer
refer_by (Some r) o lead text answer h = part_of IsEdit (phrase.Refers o r) (refers_say o r) lead text answer h
refer_by None o lead text answer h = onward_of IsEdit _ h.part answer (λ t d. decides_of IsEdit _ (referred o t) answer (referred_says o t) d) h.rest

cells_say : (lead : ℕ) (text : List ℕ) (answer : Answer) → ReadsBy (Some word.Cells) lead text answer → Of IsEdit answer
cells_say lead text answer h = onward_of IsEdit _ h.part answer (λ t d. decides_of IsEdit _ (defined t) answer (defined_says t) d) h.rest

params_say : (lead : ℕ) (text : List ℕ) (answer : Answer) → ReadsBy (Some word.Params) lead text answer → Of IsEdit answer
params_say lead text answer h = onward_of IsEdit _ h.part answer (λ t d. decides_of IsEdit _ (parametrized t) answer (parametrized_says t) d) h.rest

space_by : (a b c d : Bool) (lead : ℕ) (text : List ℕ) (answer : Answer)
    → ReadsBy (if a then Some word.Cells else if b then Some word.Def else if c then Some word.Allow else if d then Some word.Params else None) lead text answer → Of IsEdit answer
space_by true b c d lead text answer h = cells_say lead text answer h
space_by false true c d lead text answer h = cells_say lead text answer h
space_by false false true d lead text answer h = part_of IsEdit (phrase.Names task.Allow) allow_says lead text answer h
space_by false false false true lead text answer h = params_say lead text answer h
space_by false false false false lead text answer h = refused_of IsEdit lead text answer h

pub space_edits : SayEdits space_words
space_edits text c h =
    let first = first_word (behind_spaces text) in
    space_by (is_word word.Cells first) (is_word word.Def first) (is_word word.Allow first) (is_word word.Params first) (spaces text) (behind_spaces text) (Ok c) h

refs_by : (a b : Bool) (lead : ℕ) (text : List ℕ) (answer : Answer) → ReadsBy (if a then Some word.Ref else if b then Some word.Global else None) lead text answer → Of IsEdit answer
refs_by true b lead text answer h = refer_by (reference_of (first_name (ref_value text))) owner.Space lead text answer h
refs_by false true lead text answer h = refer_by (reference_of (first_name (ref_value text))) owner.Model lead text answer h
refs_by false false lead text answer h = refused_of IsEdit lead text answer h

pub refs_edits : SayEdits refs_words
refs_edits text c h =
    let first = first_word (behind_spaces text) in
    refs_by (is_word word.Ref first) (is_word word.Global first) (spaces text) (behind_spaces text) (Ok c) h

inputs_by : (a : Bool) (lead : ℕ) (text : List ℕ) (answer : Answer) → ReadsBy (if a then Some word.Input else None) lead text answer → Of IsEdit answer
inputs_by true lead text answer h = sets_say (lead + place_behind text (argument_of text)) (argument_of text) (has_literal (argument_of text)) h.part answer h.rest
inputs_by false lead text answer h = refused_of IsEdit lead text answer h

pub inputs_edits : SayEdits inputs_words
inputs_edits text c h = inputs_by (is_word word.Input (first_word (behind_spaces text))) (spaces text) (behind_spaces text) (Ok c) h
