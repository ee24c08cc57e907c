-- What the files of a folder say as a project: a model, or the first trouble in the order of reading.
use Rattle.std.specs.Prelude.{◌≡◌, ◌≢◌, ◌≤◌, ℕ, ◌+◌, ◌==◌, true, false, List, [], ◌∷◌, ◌++◌, Option, Some, None, Result, Ok, Err, length, take, drop, map, position, if◌then◌else◌}
use Rattle.std.specs.List.{list_any}
use Rattle.mx_outside.specs.Files.{FileMap, Finds, most_bytes}
use Rattle.mx_outside.specs.Outside.{Rose}
use Rattle.mx_outside.specs.declared.files.Found.{Found}
use Rattle.mx_outside.specs.declared.files.Found.TheVariants as found
use Rattle.mx_value.specs.Name.{is_name, same_name}
use Rattle.mx_print.specs.Texts.{Text}
use Rattle.mx_edit.specs.Rows.{TableRows}
use Rattle.mx_edit.specs.declared.edit.Edit.{Edit}
use Rattle.mx_edit.specs.declared.edit.Edit.TheVariants as edit
use Rattle.mx_edit.specs.declared.refusal.EditRefusal.{EditRefusal}
use Rattle.mx_edit.specs.declared.refusal.EditRefusal.TheVariants as trouble
use Rattle.mx_edit.specs.declared.table.TableRefusal.{TableRefusal}
use Rattle.mx_edit.specs.declared.table.TableRefusal.TheVariants as table
use Rattle.mx_tables.specs.Reading.{table_of}
use Rattle.mx_words.specs.declared.command.Command.{Command as ScriptCommand}
use Rattle.mx_words.specs.declared.command.Command.TheVariants as command
use Rattle.mx_words.specs.declared.command.FormRefusal.{FormRefusal}
use Rattle.mx_words.specs.declared.command.FormRefusal.TheVariants as form
use Rattle.mx_words.specs.declared.head.HeadForm.TheVariants as head
use Rattle.mx_words.specs.declared.head.Target.{Target}
use Rattle.mx_words.specs.declared.table.CommandWord.{CommandWord}
use Rattle.mx_words.specs.declared.table.CommandWord.TheVariants as word
use Rattle.mx_words.specs.Heads.{head_text}
use Rattle.mx_words.specs.Parts.{PartAnswers}
use Rattle.mx_words.specs.Texts.{spaces, behind_spaces, first_word}
use Rattle.mx_words.specs.Words.{word_of}
use Rattle.mx_script.specs.Script.{Command, commands, without_cr}
use Rattle.mx_script.specs.Commands.{ReadsAs}
use Rattle.mx_model.specs.Records.{Name, ModelRecord, empty_text}
use Rattle.mx_model.specs.Apply.{Apply}
use Rattle.mx_model.specs.Change.{change, bound_edit}
use Rattle.mx_model.specs.Refused.{record_trouble}
use Rattle.mx_paths.specs.Names.{IsNamed}
use Rattle.mx_whole_edits.specs.Laid.{IsLaid, LaysOut as IsLine}
use Rattle.mx_prepare.specs.Completed.{Becomes}
use Rattle.mx_project.specs.Folder.{EditFile, edit_file, model_file, table_file, space_file, refs_file, inputs_file, in_folder, project_line, model_words, space_words, refs_words, inputs_words, edit_files}
use Rattle.mx_project.specs.declared.refusal.ProjectRefusal.{ProjectRefusal}
use Rattle.mx_project.specs.declared.refusal.ProjectRefusal.TheVariants as refusal

-- a model or a part of one, or why there is none
abbrev pub Said : Type 0 → Type 0
Said A = Result A ProjectRefusal

-- the answer of what changes something in its place
abbrev pub left_by : {S : Type 0} → Said (Unit {0}) → S → Said S
left_by (Ok u) s = Ok s
left_by (Err why) s = Err why

-- ---- one after the other

-- a first part, and then the next with what that gave
pub data InTurn {A B : Type 0} (First : Said A → Type 0) (Next : A → Said B → Type 0) : Said B → Type 0 where
  stops : (why : ProjectRefusal) → First (Err why) → InTurn First Next (Err why)
  goes_on : {answer : Said B} (a : A) → First (Ok a) → Next a answer → InTurn First Next answer

-- each in its turn, from what those before it left, up to the first that stops
pub data OneByOne {S X : Type 0} (Step : S → X → Said S → Type 0) : S → List X → Said S → Type 0 where
  end : {s : S} → OneByOne Step s [] (Ok s)
  stops : {s : S} {x : X} {xs : List X} {why : ProjectRefusal} → Step s x (Err why) → OneByOne Step s (x ∷ xs) (Err why)
  goes_on : {s : S} {x : X} {xs : List X} {answer : Said S} (next : S) → Step s x (Ok next) → OneByOne Step next xs answer → OneByOne Step s (x ∷ xs) answer

-- ---- files

-- what is found under the name of a file is told, or is what its bytes say
abbrev pub OfFound : {A : Type 0} → Text → (List ℕ → Said A → Type 0) → Found → Said A → Type 0
OfFound name Says found.Missing answer = answer ≡ Err (refusal.Missing name)
OfFound name Says found.TooBig answer = answer ≡ Err (refusal.TooBig name)
OfFound name Says (found.Bytes bytes) answer = Says bytes.items answer

-- a file within a folder; whatever is found will do where the files are not told
pub record OfFile {A : Type 0} (files : Option FileMap) (folder name : Text) (Says : List ℕ → Said A → Type 0) (answer : Said A) : Type 0 where
  pub found : Found
  pub finds : Finds files (in_folder folder name) most_bytes found
  pub says : OfFound name Says found answer

-- why a file gives no bytes
abbrev pub GivesNone : Option FileMap → Text → Text → ProjectRefusal → Type 0
GivesNone files folder name (refusal.Missing told) = Finds files (in_folder folder name) most_bytes found.Missing × (told ≡ name)
GivesNone files folder name (refusal.TooBig told) = Finds files (in_folder folder name) most_bytes found.TooBig × (told ≡ name)
GivesNone files folder name refusal.ReadFault = Unit {0}
GivesNone files folder name refusal.NoMemory = Unit {0}
GivesNone files folder name _ = ⊥

-- why a line of a file is no command of the file's words
abbrev pub form_trouble : Text → ℕ → FormRefusal → ProjectRefusal
form_trouble file line form.UnknownWord = refusal.BadLine file line
form_trouble file line (form.BadForm place) = refusal.BadLine file line
form_trouble file line (form.Parse why) = refusal.BadFormula file line why
form_trouble file line form.NoMemory = refusal.NoMemory

-- the edit of a line is refused; want of memory has no line
abbrev pub edit_trouble : Text → ℕ → EditRefusal → ProjectRefusal
edit_trouble file line trouble.NoMemory = refusal.NoMemory
edit_trouble file line why = refusal.Refused file line why

-- the bytes of a file say no table; want of memory has no file
abbrev pub file_trouble : Text → TableRefusal → ProjectRefusal
file_trouble file table.NoMemory = refusal.NoMemory
file_trouble file why = refusal.BadTable file why

-- ---- the model file

-- what its lines have laid out so far: spaces with their bases, and the names of the tables
pub record Laid : Type 0 where
  pub text : ModelRecord
  pub tables : List Name

abbrev pub laid_of : ModelRecord → List Name → Laid
laid_of text tables = record { text = text; tables = tables }

abbrev pub nothing_laid : Laid
nothing_laid = laid_of empty_text []

-- a name that stands there already is not named again
abbrev pub with_name : List Name → Name → List Name
with_name names name = if list_any (same_name name) names then names else names ++ name ∷ []

-- the first line has no number of its own, so the next one is the second
abbrev pub line_of : Command → ℕ
line_of c = c.number + 1

abbrev pub IsTableLine : Command → Type 0
IsTableLine c = word_of model_words (first_word (behind_spaces c.text)) ≡ Some word.Table

-- a table's line is the word and a name
abbrev pub NamesTable : List ℕ → Result Target FormRefusal → Type 0
NamesTable text answer = PartAnswers (head_text head.Name) false (spaces text) (behind_spaces text) answer

-- What a line of it does. Edits are carried out by the records alone; rings, numbers and the walk come after the last line.
pub data LaysLine (l : Laid) (c : Command) : Said Laid → Type 0 where
  bad_form : (e : FormRefusal) → (IsTableLine c → ⊥) → ReadsAs model_words c.text (Err e) → LaysLine l c (Err (form_trouble model_file (line_of c) e))
  refused : (e : Edit) (why : EditRefusal) → (IsTableLine c → ⊥) → ReadsAs model_words c.text (Ok (command.Edit e)) → record_trouble l.text e ≡ Some why
      → LaysLine l c (Err (refusal.Refused model_file (line_of c) why))
  laid : (e : Edit) → (IsTableLine c → ⊥) → ReadsAs model_words c.text (Ok (command.Edit e)) → record_trouble l.text e ≡ None
      → LaysLine l c (Ok (laid_of (change l.text (bound_edit l.text e)) l.tables))
  -- whatever is wrong in the form of a table's line
  bad_table : (e : FormRefusal) → IsTableLine c → NamesTable c.text (Err e) → LaysLine l c (Err (refusal.BadLine model_file (line_of c)))
  bad_name : (t : Target) → IsTableLine c → NamesTable c.text (Ok t) → is_name t.name ≡ false → LaysLine l c (Err (refusal.Refused model_file (line_of c) trouble.BadName))
  names : (t : Target) → IsTableLine c → NamesTable c.text (Ok t) → is_name t.name ≡ true → LaysLine l c (Ok (laid_of l.text (with_name l.tables t.name)))

-- after the last line: a ring, a number that passes its greatest and what the walk meets are refused with the line 0
pub data Completes (l : Laid) : Said Laid → Type 0 where
  refused : (why : EditRefusal) → Becomes l.text (length l.tables) (Err why) → Completes l (Err (refusal.Refused model_file 0 why))
  complete : Becomes l.text (length l.tables) (Ok l.text) → Completes l (Ok l)

-- where the first line feed stands, and how many bytes stand before it
abbrev pub first_feed : List ℕ → Option ℕ
first_feed bytes = position (λ b. b == 10) bytes

abbrev pub first_length : List ℕ → ℕ
first_length bytes = elim (first_feed bytes) [ Some place ↦ place | None ↦ length bytes ]

-- the first line, and all that stands behind it
abbrev pub first_of : List ℕ → List ℕ
first_of bytes = take (first_length bytes) bytes

abbrev pub behind_first : List ℕ → List ℕ
behind_first bytes = drop (first_length bytes + 1) bytes

-- all lines behind it, one after the other
abbrev pub LaysAll : List ℕ → Said Laid → Type 0
LaysAll bytes = OneByOne LaysLine nothing_laid (commands model_words bytes)

abbrev pub LaysOut : List ℕ → Said Laid → Type 0
LaysOut bytes = InTurn (LaysAll (behind_first bytes)) Completes

pub data ModelSays (bytes : List ℕ) : Said Laid → Type 0 where
  bad_first : without_cr (first_of bytes) ≢ project_line → ModelSays bytes (Err (refusal.BadLine model_file 1))
  lays_out : {answer : Said Laid} → without_cr (first_of bytes) ≡ project_line → LaysOut bytes answer → ModelSays bytes answer

-- ---- edits

-- What an edit comes to that a line of a file says. That of a table has no line; nothing refuses it, as its name and the number of
-- tables were looked at before.
pub data Puts (file : Text) (text : ModelRecord) (line : ℕ) (e : Edit) : Said ModelRecord → Type 0 where
  refused : (why : EditRefusal) → Apply text e (Err why) → Puts file text line e (Err (refusal.Refused file line why))
  made : (made : ModelRecord) → Apply text e (Ok made) → Puts file text line e (Ok made)

-- ---- tables

-- a text that says no table has its trouble, and a table that is said is set
abbrev pub TableSaid : Text → ModelRecord → Name → Result TableRows TableRefusal → Said ModelRecord → Type 0
TableSaid file text name (Err why) answer = answer ≡ Err (refusal.BadTable file why)
TableSaid file text name (Ok rows) answer = Puts file text 0 (edit.SetTable name rows) answer

abbrev pub TableSays : ModelRecord → Name → List ℕ → Said ModelRecord → Type 0
TableSays text name bytes = TableSaid (table_file name) text name (table_of bytes)

abbrev pub SetsTable : Option FileMap → Text → ModelRecord → Name → Said ModelRecord → Type 0
SetsTable files folder text name = OfFile files folder (table_file name) (TableSays text name)

-- ---- the files of edits

-- a command of such a file is an edit
pub data EditsBy (f : EditFile) (text : ModelRecord) (c : Command) : Said ModelRecord → Type 0 where
  bad_form : (e : FormRefusal) → ReadsAs f.words c.text (Err e) → EditsBy f text c (Err (form_trouble f.name c.number e))
  edits : {answer : Said ModelRecord} (e : Edit) → ReadsAs f.words c.text (Ok (command.Edit e)) → Puts f.name text c.number e answer → EditsBy f text c answer

abbrev pub EditsSay : EditFile → ModelRecord → List ℕ → Said ModelRecord → Type 0
EditsSay f text bytes = OneByOne (EditsBy f) text (commands f.words bytes)

abbrev pub EditsFrom : Option FileMap → Text → ModelRecord → EditFile → Said ModelRecord → Type 0
EditsFrom files folder text f = OfFile files folder f.name (EditsSay f text)

-- ---- the whole project

abbrev pub ReadsEdits : Option FileMap → Text → ModelRecord → Said ModelRecord → Type 0
ReadsEdits files folder text = OneByOne (EditsFrom files folder) text (edit_files text)

abbrev pub ReadsTables : Option FileMap → Text → Laid → Said ModelRecord → Type 0
ReadsTables files folder l = InTurn (OneByOne (SetsTable files folder) l.text l.tables) (ReadsEdits files folder)

-- the model file, then the tables that it names, each once, then spaces, references and inputs
abbrev pub IsReadAs : Option FileMap → Text → Said ModelRecord → Type 0
IsReadAs files folder = InTurn (OfFile files folder model_file ModelSays) (ReadsTables files folder)

-- ---- answers

-- only want of memory is free
abbrev pub UnlessFree : {A : Type 0} → (Said A → Type 0) → Said A → Type 0
UnlessFree Says (Err refusal.NoMemory) = Unit {0}
UnlessFree Says answer = Says answer

-- where files are read, a fault is free, too
abbrev pub UnlessFault : {A : Type 0} → (Said A → Type 0) → Said A → Type 0
UnlessFault Says (Err refusal.ReadFault) = Unit {0}
UnlessFault Says answer = UnlessFree Says answer

abbrev pub Reads : Option FileMap → Text → Said ModelRecord → Type 0
Reads files folder = UnlessFault (IsReadAs files folder)

-- the count of faults at reads has risen at a fault; else it is as before, but for want of memory
abbrev pub CountsReads : {A : Type 0} → Said A → ℕ → ℕ → Type 0
CountsReads (Err refusal.ReadFault) old new = Rose old new
CountsReads (Err refusal.NoMemory) old new = old ≤ new
CountsReads answer old new = new ≡ old

-- a line, and what it says
abbrev pub line_at : ℕ → List ℕ → Command
line_at line text = record { number = line; text = text }

-- these words say edits alone
abbrev pub IsEdit : ScriptCommand → Type 0
IsEdit (command.Edit e) = Unit {0}
IsEdit _ = ⊥

abbrev pub SayEdits : List CommandWord → Type 0
SayEdits words = (source : List ℕ) (c : ScriptCommand) → ReadsAs words source (Ok c) → IsEdit c

-- ---- lines of the model file

-- a text is laid out, and its spaces have names
pub record IsLaidOut (text : ModelRecord) : Type 0 where
  pub laid : IsLaid text
  pub named : IsNamed text

-- what a line comes to that says this edit
abbrev pub IsLaidBy : Laid → ℕ → Edit → Said Laid → Type 0
IsLaidBy l number e answer =
    (source : List ℕ) → (IsTableLine (line_at number source) → ⊥) → ReadsAs model_words source (Ok (command.Edit e)) → LaysLine l (line_at number source) answer

-- whatever is wrong in the form of a table's line; want of memory has no line
abbrev pub table_trouble : ℕ → FormRefusal → ProjectRefusal
table_trouble line form.NoMemory = refusal.NoMemory
table_trouble line why = refusal.BadLine model_file line

-- what a line comes to that names this table
abbrev pub IsNamedBy : Laid → ℕ → Name → Said Laid → Type 0
IsNamedBy l number name answer =
    (source : List ℕ) (t : Target) → t.name ≡ name → IsTableLine (line_at number source) → NamesTable source (Ok t) → LaysLine l (line_at number source) answer

-- a line that is no table's is a space or the bases of one
abbrev pub Lays : ScriptCommand → Type 0
Lays (command.Edit e) = IsLine e
Lays _ = ⊥

abbrev pub SayLines : Type 0
SayLines = (source : List ℕ) (c : ScriptCommand) → (word_of model_words (first_word (behind_spaces source)) ≡ Some word.Table → ⊥) → ReadsAs model_words source (Ok c) → Lays c

-- ---- files of spaces

abbrev pub space_edits : Name → EditFile
space_edits top = edit_file (space_file top) space_words

-- those of these top spaces, one after the other
abbrev pub ReadsSpaces : Option FileMap → Text → List Name → ModelRecord → Said ModelRecord → Type 0
ReadsSpaces files folder some text = OneByOne (EditsFrom files folder) text (map space_edits some)

-- those of the references and of the inputs
abbrev pub ReadsEnds : Option FileMap → Text → ModelRecord → Said ModelRecord → Type 0
ReadsEnds files folder text = OneByOne (EditsFrom files folder) text (edit_file refs_file refs_words ∷ edit_file inputs_file inputs_words ∷ [])
