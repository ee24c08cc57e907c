-- There is one answer for the text of a command.
use Rattle.std.proofs.Common.{◌≡◌, ◌≢◌, ℕ, ◌+◌, List, Option, Some, None, Bool, true, false, codes, take, Result, Ok, Err, sym, ap, subst, ◌∙◌}
use Rattle.mx_value.specs.declared.node.Node.{Node}
use Rattle.mx_value.specs.declared.node.Node.TheVariants.{Cell, Item}
use Rattle.mx_grammar.specs.declared.refusal.ParseRefusal.{ParseRefusal}
use Rattle.mx_grammar.specs.Spelling.{Answers}
use Rattle.mx_grammar.specs.Limits.{AnswersWithin}
use Rattle.mx_grammar.specs.Literals.{node_text, literal_text}
use Rattle.mx_grammar.specs.Reading.{line}
use Rattle.mx_grammar.proofs.Answering.{one_answer}
use Rattle.mx_grammar.proofs.Limited.{one_within}
use Rattle.mx_grammar.proofs.Languages.{nodes, literals}
use Rattle.mx_parse.specs.Formulas.{formula_text, params_text}
use Rattle.mx_parse.specs.FormulaLimits.{formula_limits, params_limits}
use Rattle.mx_parse.proofs.Languages.{formulas, space_parameters}
use Rattle.mx_outside.specs.Names.{IsFileName}
use Rattle.mx_words.specs.declared.command.FormRefusal.{FormRefusal}
use Rattle.mx_words.specs.declared.command.FormRefusal.TheVariants.{NoMemory}
use Rattle.mx_words.specs.declared.table.CommandWord.{CommandWord}
use Rattle.mx_words.specs.declared.table.Form.{Form}
use Rattle.mx_words.specs.declared.table.Form.TheVariants as form
use Rattle.mx_words.specs.declared.table.Asked.{Asked}
use Rattle.mx_value.specs.declared.value.Segment.{Segment}
use Rattle.mx_edit.specs.declared.scope.Scope.TheVariants as scope
use Rattle.mx_words.specs.declared.command.Command.TheVariants as command
use Rattle.mx_words.specs.declared.table.Asked.TheVariants as asked
use Rattle.mx_words.specs.declared.table.Clearing.{Clearing}
use Rattle.mx_words.specs.declared.table.Clearing.TheVariants as clearing
use Rattle.mx_words.specs.declared.table.Owner.{Owner}
use Rattle.mx_words.specs.declared.table.Reference.{Reference}
use Rattle.mx_words.specs.declared.table.Phrase.TheVariants as phrase
use Rattle.mx_words.specs.declared.head.Target.{Target}
use Rattle.mx_words.specs.declared.head.HeadForm.TheVariants as head
use Rattle.mx_words.specs.Heads.{head_text}
use Rattle.mx_words.specs.HeadParsers.{worded, head_by}
use Rattle.mx_words.specs.Texts.{spaces, behind_spaces, first_word, head_of, formula_of, first_name, behind_equals}
use Rattle.mx_words.specs.Words.{rest_of, word_of}
use Rattle.mx_words.specs.Phrases.{phrase_text, address_text}
use Rattle.mx_words.specs.PhraseParsers.{phrase_by, address_by}
use Rattle.mx_words.specs.Parts.{Answer, Sequel, Onward, Decides}
use Rattle.mx_script.specs.Commands.{opens, form_of, HeadAnswers, ref_value, reference_of, referred, RefHead, RefersBy, newline_of, AddressAnswers, cells_at, cleared_of, clearing_of, ClearsBy, defined, Defines, parametrized, Parametrizes, asked_of, Asks, argument_of, place_behind, input_node, input_literal, has_literal, input_of, Sets, Inputs, FileAnswers, behind_name, TableHead, file_of, from_file, FromFile, ReadsTable, ReadsRest, ReadsBy, ReadsAs, Unless}
use Rattle.mx_words.proofs.HeadRules.{by_form}
use Rattle.mx_words.proofs.PhraseRules.{phrases, addresses}
use Rattle.mx_words.proofs.PartAnswers.{failed}
use Rattle.mx_words.proofs.OnePart.{Unique, one_part, one_sequel, one_onward, one_decides}

one_asking : (a : Asked) (start : ℕ) (source : List ℕ) → Unique (Asks a start source)
one_asking a start source = one_decides (Answers node_text source) (asked_of a start source) (one_answer node_text _ nodes source)

one_set : (start : ℕ) (source : List ℕ) (literal : Bool) (r : Result Node ParseRefusal) → Unique (Sets start source literal r)
one_set start source literal (Err e) r s p q = p ∙ sym q
one_set start source true (Ok (Cell space name args)) r s p q = one_decides (Answers literal_text (input_literal source)) (input_of space name args) (one_answer literal_text _ literals (input_literal source)) r s p q
one_set start source false (Ok (Cell space name args)) r s p q = p ∙ sym q
one_set start source true (Ok (Item space args)) r s p q = p ∙ sym q
one_set start source false (Ok (Item space args)) r s p q = p ∙ sym q

one_input : (start : ℕ) (source : List ℕ) → Unique (Inputs start source)
one_input start source = one_sequel (Answers node_text (input_node source)) (Sets start source (has_literal source)) (one_answer node_text _ nodes (input_node source)) (one_set start source (has_literal source))

abbrev named : List ℕ → Result (List ℕ) FormRefusal
named n = Ok n

one_file : (start : ℕ) (source : List ℕ) → Unique (FileAnswers start source)
one_file start source (Ok a) (Ok b) p q = ap named (p.1 ∙ sym q.1)
one_file start source (Ok a) (Err e) p q = absurd (q.0 (subst IsFileName p.1 p.0))
one_file start source (Err d) (Ok b) p q = absurd (p.0 (subst IsFileName q.1 q.0))
one_file start source (Err d) (Err e) p q = ap failed (p.1 ∙ sym q.1)

module _ (lead : ℕ) (text : List ℕ) where
  one_head : Unique (HeadAnswers lead text)
  one_head = one_part (head_text (form_of (opens text))) (λ m. line (head_by (form_of (opens text)))) (by_form (form_of (opens text))) false lead (head_of text)

  one_definition : Unique (Defines lead text)
  one_definition =
      let Next = λ (t : Target). Decides (AnswersWithin formula_text formula_limits (formula_of text)) (defined t) in
      one_sequel (HeadAnswers lead text) (Onward Next) one_head (one_onward Next (λ t. one_decides (AnswersWithin formula_text formula_limits (formula_of text)) (defined t) (one_within formula_text _ formulas formula_limits (formula_of text))))

  one_params : Unique (Parametrizes lead text)
  one_params =
      let Next = λ (t : Target). Decides (AnswersWithin params_text params_limits (formula_of text)) (parametrized t) in
      one_sequel (HeadAnswers lead text) (Onward Next) one_head (one_onward Next (λ t. one_decides (AnswersWithin params_text params_limits (formula_of text)) (parametrized t) (one_within params_text _ space_parameters params_limits (formula_of text))))

  one_reference : (o : Owner) (r : Option Reference) → Unique (RefersBy r o lead text)
  one_reference o (Some r) = one_part (phrase_text (phrase.Refers o r)) (λ n. line (worded (phrase_by (phrase.Refers o r) n))) (phrases (phrase.Refers o r)) false lead text
  one_reference o None =
      let Next = λ (t : Target). Decides (Answers literal_text (ref_value text)) (referred o t) in
      one_sequel (RefHead o lead text) (Onward Next) (one_part (head_text (head.Reference o)) (λ m. line (head_by (head.Reference o))) (by_form (head.Reference o)) false lead (take (behind_equals text) text))
      (one_onward Next (λ t. one_decides (Answers literal_text (ref_value text)) (referred o t) (one_answer literal_text _ literals (ref_value text))))

  one_address : (name : List ℕ) (done : List Segment → Answer) → Unique (Sequel (AddressAnswers name lead text) (Onward (λ a answer. answer ≡ done a)))
  one_address name done =
      let Next : List Segment → Answer → Type 0 = λ a answer. answer ≡ done a in
      one_sequel (AddressAnswers name lead text) (Onward Next) (one_part (address_text name) (λ n. line (worded (address_by name n))) (addresses name) true lead text) (one_onward Next (λ a r s p q. p ∙ sym q))

  one_table : Unique (ReadsTable lead text)
  one_table = one_sequel (TableHead lead text) (Onward (FromFile lead text)) (one_part (head_text head.Name) (λ m. line (head_by head.Name)) (by_form head.Name) false lead (take (place_behind text (behind_name text)) text))
      (one_onward (FromFile lead text) (λ t. one_decides (FileAnswers (lead + place_behind text (file_of text)) (file_of text)) (from_file t) (one_file (lead + place_behind text (file_of text)) (file_of text))))

  one_clearing : (c : Clearing) → Unique (ClearsBy c lead text)
  one_clearing clearing.All = one_part (phrase_text phrase.ClearAll) (λ n. line (worded (phrase_by phrase.ClearAll n))) (phrases phrase.ClearAll) false lead text
  one_clearing clearing.Space = one_address (codes "space") (λ a. Ok (command.Clear (scope.Space a)))
  one_clearing clearing.Cells = one_address (codes "cells") (cells_at (lead + newline_of text))
  one_clearing clearing.Node = one_asking asked.Clear (lead + place_behind text (cleared_of text)) (cleared_of text)

  one_rest : (f : Form) → Unique (ReadsRest f lead text)
  one_rest form.Cells = one_definition
  one_rest form.Params = one_params
  one_rest (form.Phrase p) = one_part (phrase_text p) (λ n. line (worded (phrase_by p n))) (phrases p) false lead text
  one_rest (form.Node a) = one_asking a (lead + place_behind text (argument_of text)) (argument_of text)
  one_rest form.Input = one_input (lead + place_behind text (argument_of text)) (argument_of text)
  one_rest form.Table = one_table
  one_rest form.Clear = one_clearing (clearing_of (first_name (argument_of text)))
  one_rest (form.Reference o) = one_reference o (reference_of (first_name (ref_value text)))

  one_by : (word : Option CommandWord) → Unique (ReadsBy word lead text)
  one_by None r s a b = a ∙ sym b
  one_by (Some w) r s a b = one_rest (rest_of w).form r s a b

pub only_command : (words : List CommandWord) (text : List ℕ) (r : Answer) → (r ≢ Err NoMemory → ReadsAs words text r) → (answer : Answer) → ReadsAs words text answer → Unless answer r
only_command words text (Ok c) found answer h = one_by (spaces text) (behind_spaces text) (word_of words (first_word (behind_spaces text))) answer (Ok c) h (found (λ e. absurd cc))
only_command words text (Err e) found answer h = λ ne. one_by (spaces text) (behind_spaces text) (word_of words (first_word (behind_spaces text))) answer (Err e) h (found (λ f. ne (let same : e ≡ NoMemory = cc in same)))
