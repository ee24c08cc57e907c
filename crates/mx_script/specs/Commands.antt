-- What the text of a command says.
use Rattle.std.specs.Prelude.{◌≡◌, ◌≢◌, ◌==◌, codes, ℕ, ◌+◌, ◌-◌, Bool, true, false, nat_lt, nat_eq, length, take, drop, if◌then◌else◌, List, [], ◌∷◌, Option, Some, None, Result, Ok, Err}
use Rattle.std.specs.Cmp.Lexicographic.{pointwise}
use Rattle.mx_lex.specs.declared.Token.{Token}
use Rattle.mx_lex.specs.Lexing.{tokens_of}
use Rattle.mx_value.specs.declared.value.Value.{Value}
use Rattle.mx_value.specs.declared.value.Segment.{Segment}
use Rattle.mx_value.specs.declared.value.Segment.TheVariants.{Name}
use Rattle.mx_edit.specs.declared.scope.Scope.TheVariants as scope
use Rattle.mx_outside.specs.Names.{IsFileName}
use Rattle.mx_value.specs.declared.node.Node.{Node}
use Rattle.mx_value.specs.declared.node.Node.TheVariants.{Cell, Item}
use Rattle.mx_syntax.specs.declared.stmt.Formula.{Formula}
use Rattle.mx_syntax.specs.declared.stmt.Params.{Params}
use Rattle.mx_grammar.specs.declared.refusal.ParseRefusal.{ParseRefusal}
use Rattle.mx_grammar.specs.Spelling.{Answers}
use Rattle.mx_grammar.specs.Literals.{node_text, literal_text, space_of as main_of}
use Rattle.mx_grammar.specs.Limits.{AnswersWithin}
use Rattle.mx_parse.specs.Formulas.{formula_text, params_text}
use Rattle.mx_parse.specs.FormulaLimits.{formula_limits, params_limits}
use Rattle.mx_edit.specs.declared.edit.Edit.TheVariants as edit
use Rattle.mx_words.specs.declared.command.Command.TheVariants as command
use Rattle.mx_words.specs.declared.command.FormRefusal.{FormRefusal}
use Rattle.mx_words.specs.declared.command.FormRefusal.TheVariants.{UnknownWord, BadForm, Parse}
use Rattle.mx_words.specs.declared.command.FormRefusal.TheVariants as refusal
use Rattle.mx_words.specs.declared.table.CommandWord.{CommandWord}
use Rattle.mx_words.specs.declared.table.Form.{Form}
use Rattle.mx_words.specs.declared.table.Form.TheVariants as form
use Rattle.mx_words.specs.declared.table.Asked.{Asked}
use Rattle.mx_words.specs.declared.table.Asked.TheVariants as asked
use Rattle.mx_words.specs.declared.head.Target.{Target}
use Rattle.mx_words.specs.declared.head.HeadForm.{HeadForm}
use Rattle.mx_words.specs.declared.head.HeadForm.TheVariants as head
use Rattle.mx_words.specs.declared.table.Clearing.{Clearing}
use Rattle.mx_words.specs.declared.table.Clearing.TheVariants as clearing
use Rattle.mx_words.specs.declared.table.Owner.{Owner}
use Rattle.mx_words.specs.declared.table.Reference.{Reference}
use Rattle.mx_words.specs.declared.table.Reference.TheVariants as reference
use Rattle.mx_words.specs.declared.table.Phrase.TheVariants as phrase
use Rattle.mx_edit.specs.declared.reference.RefValue.TheVariants as ref
use Rattle.mx_words.specs.Heads.{space_of, whole_of, head_text}
use Rattle.mx_words.specs.Texts.{spaces, behind_spaces, first_word, behind_word, head_length, head_of, formula_of, node_length, before_spaces, name_length, first_name, behind_equals}
use Rattle.mx_words.specs.Phrases.{phrase_text, address_text, set_ref}
use Rattle.mx_words.specs.Words.{rest_of, word_of}
use Rattle.mx_words.specs.Parts.{Answer, Sequel, Onward, Decides, PartAnswers}

-- ---- heads

-- an opening parenthesis stands behind the head
abbrev pub opens : List ℕ → Bool
opens text = nat_lt (head_length text) (length text)

-- the form of a head, where an opening parenthesis stands behind it or not
abbrev pub form_of : Bool → HeadForm
form_of true = head.Names
form_of false = head.Opened

-- the answer for the head of a text with so many spaces in front of it
abbrev pub HeadAnswers : ℕ → List ℕ → Result Target FormRefusal → Type 0
HeadAnswers lead text r = PartAnswers (head_text (form_of (opens text))) false lead (head_of text) r

abbrev pub defined : Target → Result Formula ParseRefusal → Answer
defined t (Err e) = Err (Parse e)
defined t (Ok f) = Ok (command.Edit (edit.SetCells (space_of t.path) t.name f))

-- a head, and then a formula
abbrev pub Defines : ℕ → List ℕ → Answer → Type 0
Defines lead text = Sequel (HeadAnswers lead text) (Onward (λ t. Decides (AnswersWithin formula_text formula_limits (formula_of text)) (defined t)))

abbrev pub parametrized : Target → Result Params ParseRefusal → Answer
parametrized t (Err e) = Err (Parse e)
parametrized t (Ok p) = Ok (command.Edit (edit.SetParams (whole_of t) (Some p)))

-- a head, and then the parameters of a space
abbrev pub Parametrizes : ℕ → List ℕ → Answer → Type 0
Parametrizes lead text = Sequel (HeadAnswers lead text) (Onward (λ t. Decides (AnswersWithin params_text params_limits (formula_of text)) (parametrized t)))

-- ---- nodes

-- the text holds no token but its end
abbrev pub is_empty_text : List ℕ → Bool
is_empty_text source = elim (tokens_of source) [ Ok tokens ↦ nat_eq (length tokens) 1 | Err e ↦ false ]

abbrev pub place_of : List Token → ℕ
place_of [] = 0
place_of (t ∷ ts) = t.at

-- the place of the last token before the end, which is the NEWLINE of a line
abbrev pub newline_of : List ℕ → ℕ
newline_of source = elim (tokens_of source) [ Ok tokens ↦ place_of (drop (length tokens - 2) tokens) | Err e ↦ 0 ]

-- an input is one of cells
abbrev pub uninput : ℕ → List ℕ → Node → Answer
uninput start source (Cell space name args) = Ok (command.Edit (edit.DelInput space name args))
uninput start source (Item space args) = Err (BadForm (start + newline_of source))

-- what is done with a node, which begins at this place of the command
abbrev pub asked_command : Asked → ℕ → List ℕ → Node → Answer
asked_command asked.Value start source n = Ok (command.Eval n)
asked_command asked.Precedents start source n = Ok (command.Precedents n)
asked_command asked.Successors start source n = Ok (command.Succs n)
asked_command asked.Held start source n = Ok (command.Held (Some n))
asked_command asked.Clear start source n = Ok (command.Clear (scope.One n))
asked_command asked.DelInput start source n = uninput start source n

-- the word alone
abbrev pub is_alone : Asked → List ℕ → Bool
is_alone asked.Held source = is_empty_text source
is_alone _ source = false

-- where no node stands behind it
abbrev pub unasked : Asked → List ℕ → ParseRefusal → Answer
unasked a source e = if is_alone a source then Ok (command.Held None) else Err (Parse e)

abbrev pub asked_of : Asked → ℕ → List ℕ → Result Node ParseRefusal → Answer
asked_of a start source (Err e) = unasked a source e
asked_of a start source (Ok n) = asked_command a start source n

-- the rest of the line is a node
abbrev pub Asks : Asked → ℕ → List ℕ → Answer → Type 0
Asks a start source = Decides (Answers node_text source) (asked_of a start source)

-- what stands behind the word, and where a text begins that a command ends with
abbrev pub argument_of : List ℕ → List ℕ
argument_of text = behind_spaces (behind_word text)

abbrev pub place_behind : List ℕ → List ℕ → ℕ
place_behind text source = length text - length source

-- ---- inputs

-- the node before `=`, and the literal behind it
abbrev pub input_node : List ℕ → List ℕ
input_node source = before_spaces (take (node_length source) source)

abbrev pub input_literal : List ℕ → List ℕ
input_literal source = behind_spaces (drop (node_length source + 1) source)

abbrev pub has_literal : List ℕ → Bool
has_literal source = nat_lt (node_length source) (length source)

-- where `=` stands, or the end of the line
abbrev pub behind_node : List ℕ → ℕ
behind_node source = if has_literal source then node_length source else newline_of source

abbrev pub input_of : List Segment → List ℕ → List Value → Result Value ParseRefusal → Answer
input_of space name args (Err e) = Err (Parse e)
input_of space name args (Ok v) = Ok (command.Edit (edit.SetInput space name args v))

-- what follows the node
abbrev pub Sets : ℕ → List ℕ → Bool → Result Node ParseRefusal → Answer → Type 0
Sets start source literal (Err e) answer = answer ≡ Err (Parse e)
Sets start source true (Ok (Cell space name args)) answer = Decides (Answers literal_text (input_literal source)) (input_of space name args) answer
Sets start source literal (Ok n) answer = answer ≡ Err (BadForm (start + behind_node source))

-- a node of cells, `=` and a literal
abbrev pub Inputs : ℕ → List ℕ → Answer → Type 0
Inputs start source = Sequel (Answers node_text (input_node source)) (Sets start source (has_literal source))

-- ---- references

-- the value of a reference, behind its first token `=`
abbrev pub ref_value : List ℕ → List ℕ
ref_value text = behind_spaces (drop (behind_equals text) text)

abbrev pub is_text : List ℕ → List ℕ → Bool
is_text a b = pointwise ◌==◌ a b

-- what a value refers to, by the word that it begins with
abbrev pub reference_of : List ℕ → Option Reference
reference_of word = if is_text word (codes "table") then Some reference.Table else (if is_text word (codes "to") then Some reference.To else (if is_text word (codes "abs") then Some reference.Abs else None))

abbrev pub referred : Owner → Target → Result Value ParseRefusal → Answer
referred o t (Err e) = Err (Parse e)
referred o t (Ok v) = Ok (set_ref o t (ref.Plain v))

-- the head of a reference with a literal
abbrev pub RefHead : Owner → ℕ → List ℕ → Result Target FormRefusal → Type 0
RefHead o lead text r = PartAnswers (head_text (head.Reference o)) false lead (take (behind_equals text) text) r

abbrev pub RefersBy : Option Reference → Owner → ℕ → List ℕ → Answer → Type 0
RefersBy (Some r) o lead text = PartAnswers (phrase_text (phrase.Refers o r)) false lead text
RefersBy None o lead text = Sequel (RefHead o lead text) (Onward (λ t. Decides (Answers literal_text (ref_value text)) (referred o t)))

-- a reference, `=` and its value
abbrev pub Refers : Owner → ℕ → List ℕ → Answer → Type 0
Refers o lead text = RefersBy (reference_of (first_name (ref_value text))) o lead text

-- ---- clearings

-- what a clearing drops, by the name behind its word
abbrev pub clearing_of : List ℕ → Clearing
clearing_of name = if is_text name (codes "space") then clearing.Space else (if is_text name (codes "cells") then clearing.Cells else (if is_text name (codes "node") then clearing.Node else clearing.All))

-- what stands behind that name
abbrev pub cleared_of : List ℕ → List ℕ
cleared_of text = behind_spaces (drop (name_length (argument_of text)) (argument_of text))

abbrev pub cells_by : ℕ → List Segment → List Segment → Answer
cells_by place front (Name n ∷ last) = Ok (command.Clear (scope.Cells (main_of front) n))
cells_by place front last = Err (BadForm place)

-- the cells at an address, which does not end with an item; the line ends at this place
abbrev pub cells_at : ℕ → List Segment → Answer
cells_at place a = cells_by place (take (length a - 1) a) (drop (length a - 1) a)

-- the answer for an address behind the word and a name
abbrev pub AddressAnswers : List ℕ → ℕ → List ℕ → Result (List Segment) FormRefusal → Type 0
AddressAnswers name lead text r = PartAnswers (address_text name) true lead text r

abbrev pub ClearsBy : Clearing → ℕ → List ℕ → Answer → Type 0
ClearsBy clearing.All lead text = PartAnswers (phrase_text phrase.ClearAll) false lead text
ClearsBy clearing.Space lead text = Sequel (AddressAnswers (codes "space") lead text) (Onward (λ a answer. answer ≡ Ok (command.Clear (scope.Space a))))
ClearsBy clearing.Cells lead text = Sequel (AddressAnswers (codes "cells") lead text) (Onward (λ a answer. answer ≡ cells_at (lead + newline_of text) a))
ClearsBy clearing.Node lead text = Asks asked.Clear (lead + place_behind text (cleared_of text)) (cleared_of text)

abbrev pub Clears : ℕ → List ℕ → Answer → Type 0
Clears lead text = ClearsBy (clearing_of (first_name (argument_of text))) lead text

-- ---- tables from files

-- The answer for the rest of a line, which begins at this place: without the spaces at its end it has to be the name of a file.
abbrev pub FileAnswers : ℕ → List ℕ → Result (List ℕ) FormRefusal → Type 0
FileAnswers start source (Ok name) = IsFileName name × (name ≡ before_spaces source)
FileAnswers start source (Err e) = (IsFileName (before_spaces source) → ⊥) × (e ≡ BadForm start)

-- what stands behind the name that follows the word, of which it need not be apart
abbrev pub behind_name : List ℕ → List ℕ
behind_name text = drop (name_length (argument_of text)) (argument_of text)

-- the answer for the head, which is the word and that name
abbrev pub TableHead : ℕ → List ℕ → Result Target FormRefusal → Type 0
TableHead lead text r = PartAnswers (head_text head.Name) false lead (take (place_behind text (behind_name text)) text) r

-- the name of the file
abbrev pub file_of : List ℕ → List ℕ
file_of text = behind_spaces (behind_name text)

abbrev pub from_file : Target → Result (List ℕ) FormRefusal → Answer
from_file t (Err e) = Err e
from_file t (Ok file) = Ok (command.Table t.name file)

abbrev pub FromFile : ℕ → List ℕ → Target → Answer → Type 0
FromFile lead text t = Decides (FileAnswers (lead + place_behind text (file_of text)) (file_of text)) (from_file t)

-- the head, and then the name of a file
abbrev pub ReadsTable : ℕ → List ℕ → Answer → Type 0
ReadsTable lead text = Sequel (TableHead lead text) (Onward (FromFile lead text))

-- ---- commands

abbrev pub ReadsRest : Form → ℕ → List ℕ → Answer → Type 0
ReadsRest form.Cells lead text answer = Defines lead text answer
ReadsRest form.Params lead text answer = Parametrizes lead text answer
ReadsRest (form.Phrase p) lead text answer = PartAnswers (phrase_text p) false lead text answer
ReadsRest (form.Node a) lead text answer = Asks a (lead + place_behind text (argument_of text)) (argument_of text) answer
ReadsRest form.Input lead text answer = Inputs (lead + place_behind text (argument_of text)) (argument_of text) answer
ReadsRest form.Table lead text answer = ReadsTable lead text answer
ReadsRest form.Clear lead text answer = Clears lead text answer
ReadsRest (form.Reference o) lead text answer = Refers o lead text answer

abbrev pub ReadsBy : Option CommandWord → ℕ → List ℕ → Answer → Type 0
ReadsBy None lead text answer = answer ≡ Err UnknownWord
ReadsBy (Some w) lead text answer = ReadsRest (rest_of w).form lead text answer

-- The answer for the text of a command: its lines without their ends, joined by LF. Its first word, which has to be one of
-- these, decides, and the spaces before that are skipped.
abbrev pub ReadsAs : List CommandWord → List ℕ → Answer → Type 0
ReadsAs words text answer = ReadsBy (word_of words (first_word (behind_spaces text))) (spaces text) (behind_spaces text) answer

-- the answer is this one, unless there is no memory
abbrev pub Unless : Answer → Answer → Type 0
Unless answer (Ok c) = answer ≡ Ok c
Unless answer (Err e) = e ≢ refusal.NoMemory → answer ≡ Err e
