-- What the commands of a script do: from a state each writes a block and leaves the next state.
use Rattle.std.specs.Prelude.{◌≡◌, ◌≢◌, ℕ, ◌-◌, true, false, List, Option, Some, None, Result, Ok, Err, length, codes}
use Rattle.mx_value.specs.declared.label.Label.{Label}
use Rattle.mx_value.specs.declared.node.Node.{Node}
use Rattle.mx_value.specs.declared.read.Read.{Read}
use Rattle.mx_value.specs.declared.value.Value.{Value}
use Rattle.mx_value.specs.declared.refusal.EvalRefusal.{EvalRefusal}
use Rattle.mx_value.specs.declared.refusal.EvalRefusal.TheVariants as refusal
use Rattle.mx_print.specs.Texts.{Text}
use Rattle.mx_edit.specs.Rows.{TableRows}
use Rattle.mx_edit.specs.declared.edit.Edit.{Edit}
use Rattle.mx_edit.specs.declared.edit.Edit.TheVariants as edit
use Rattle.mx_edit.specs.declared.refusal.EditRefusal.{EditRefusal}
use Rattle.mx_edit.specs.declared.scope.Scope.{Scope}
use Rattle.mx_edit.specs.declared.table.TableRefusal.{TableRefusal}
use Rattle.mx_outside.specs.Files.{FileMap, Finds, most_bytes}
use Rattle.mx_outside.specs.declared.files.Found.{Found}
use Rattle.mx_outside.specs.declared.files.Found.TheVariants as found
use Rattle.mx_tables.specs.Reading.{table_of}
use Rattle.mx_words.specs.declared.command.Command.{Command as ScriptCommand}
use Rattle.mx_words.specs.declared.command.Command.TheVariants as command
use Rattle.mx_words.specs.declared.command.FormRefusal.{FormRefusal}
use Rattle.mx_words.specs.declared.command.FormRefusal.TheVariants as form
use Rattle.mx_words.specs.Words.{every_word}
use Rattle.mx_script.specs.Script.{Command}
use Rattle.mx_script.specs.Commands.{ReadsAs}
use Rattle.mx_text.specs.Blocks.{eval_block, reads_block, succs_block, count_block, held_block, cleared_block, accepted_block, refused_block, edit_block, missing_block, too_big_block, table_block, order_block}
use Rattle.mx_text.specs.Form.{form_block}
use Rattle.mx_runs.specs.Lists.{Has}
use Rattle.mx_model.specs.Records.{Path}
use Rattle.mx_model.specs.declared.layers.Layered.TheVariants.{NotStatic}
use Rattle.mx_model.specs.Layers.{layers}
use Rattle.mx_model.specs.Apply.{Apply}
use Rattle.mx_model.specs.Literals.{IsRead}
use Rattle.mx_answers.specs.Held.{nodes_of}
use Rattle.mx_answers.specs.Answers.{IsLimit}
use Rattle.mx_state.specs.State.{State}
use Rattle.mx_state.specs.Evaluations.{Evaluates, HasPrecedents}
use Rattle.mx_state.specs.Changes.{Edits, Clearing}
use Rattle.mx_engine.specs.Successors.{AreSuccessors}
use Rattle.mx_engine.specs.Order.{AreLayers}

-- an edit: an accepted one makes what it says, and a refused one changes nothing
pub data Changes (s : State) (e : Edit) (block : Text) (new : State) : Type 0 where
  Accepts : Edits s e new → block ≡ accepted_block → Changes s e block new
  Refuses : (why : EditRefusal) → Apply s.text e (Err why) → block ≡ edit_block (Err why) → new ≡ s → Changes s e block new

-- an evaluation: its answer, with how many formula runs began where that is a value
pub record TellsValue (s : State) (n : Node) (block : Text) (new : State) : Type 0 where
  pub answer : Result Value EvalRefusal
  pub ticks : ℕ
  pub evaluates : Evaluates s n answer ticks new
  pub memory : answer ≢ Err refusal.NoMemory
  pub text : block ≡ eval_block answer ticks

-- the precedents of a node, which is evaluated
pub record TellsPrecedents (s : State) (n : Node) (block : Text) (new : State) : Type 0 where
  pub answer : Result (List Read) EvalRefusal
  pub ticks : ℕ
  pub has : HasPrecedents s n answer ticks new
  pub memory : answer ≢ Err refusal.NoMemory
  pub text : block ≡ reads_block answer

-- the held nodes that ask a node
pub record TellsSuccessors (s : State) (n : Node) (block : Text) (new : State) : Type 0 where
  pub nodes : List Node
  pub are : AreSuccessors s n nodes
  pub text : block ≡ succs_block nodes
  pub state : new ≡ s

-- whether a node is held
pub data TellsHeld (s : State) (n : Node) (block : Text) (new : State) : Type 0 where
  IsHeld : Has (nodes_of s.held) n → block ≡ held_block true → new ≡ s → TellsHeld s n block new
  IsNotHeld : (Has (nodes_of s.held) n → ⊥) → block ≡ held_block false → new ≡ s → TellsHeld s n block new

-- how many nodes are held, or whether one is
abbrev pub Counts : State → Option Node → Text → State → Type 0
Counts s None block new = (block ≡ count_block (length s.held)) × (new ≡ s)
Counts s (Some n) block new = TellsHeld s n block new

-- a clearing, and how many nodes it drops
pub record Drops (s : State) (scope : Scope) (block : Text) (new : State) : Type 0 where
  pub clearing : Clearing s scope new
  pub text : block ≡ cleared_block (length s.held - length new.held)

-- a limit on the nodes of a chain, which is set within its bounds
pub data Limits (s : State) (limit : ℕ) (block : Text) (new : State) : Type 0 where
  Sets : IsLimit limit → block ≡ accepted_block → new ≡ record s { limit = limit } → Limits s limit block new
  IsPastBounds : (IsLimit limit → ⊥) → block ≡ refused_block (codes "BadLimit") → new ≡ s → Limits s limit block new

-- the paths of a path's layers, in order
pub data TellsOrder (s : State) (path : Path) (block : Text) (new : State) : Type 0 where
  HasLayers : (paths : List Path) → AreLayers s.text path paths → block ≡ order_block paths → new ≡ s → TellsOrder s path block new
  IsNotStatic : layers s.text path ≡ NotStatic → block ≡ refused_block (codes "NoSuchSpace") → new ≡ s → TellsOrder s path block new

-- a table that a text says is set, and a text that says none is refused for its first trouble
abbrev pub SetsSaid : State → Label → Result TableRows TableRefusal → Text → State → Type 0
SetsSaid s name (Ok rows) block new = Changes s (edit.SetTable name rows) block new
SetsSaid s name (Err why) block new = (block ≡ table_block why) × (new ≡ s)

-- what is found under the name of a file is set, or refused: the file first, then the table, then the edit
abbrev pub SetsFound : State → Label → Label → Found → Text → State → Type 0
SetsFound s name file found.Missing block new = (block ≡ missing_block file) × (new ≡ s)
SetsFound s name file found.TooBig block new = (block ≡ too_big_block file) × (new ≡ s)
SetsFound s name file (found.Bytes bytes) block new = SetsSaid s name (table_of bytes.items) block new

-- a table from a file; whatever is found will do where the files are not told
pub record SetsTable (files : Option FileMap) (s : State) (name file : Label) (block : Text) (new : State) : Type 0 where
  pub found : Found
  pub finds : Finds files file most_bytes found
  pub sets : SetsFound s name file found block new

-- what a command does from a state, among these files: the block that it writes, and the next state
abbrev pub CarriesOut : Option FileMap → State → ScriptCommand → Text → State → Type 0
CarriesOut files s (command.Edit e) block new = Changes s e block new
CarriesOut files s (command.Table name file) block new = SetsTable files s name file block new
CarriesOut files s (command.Eval n) block new = TellsValue s n block new
CarriesOut files s (command.Precedents n) block new = TellsPrecedents s n block new
CarriesOut files s (command.Succs n) block new = TellsSuccessors s n block new
CarriesOut files s (command.Held n) block new = Counts s n block new
CarriesOut files s (command.Clear scope) block new = Drops s scope block new
CarriesOut files s (command.Limit limit) block new = Limits s limit block new
CarriesOut files s (command.Order path) block new = TellsOrder s path block new

-- the command that a text says which begins in this line
abbrev pub command_at : ℕ → List ℕ → Command
command_at number text = record { number = number; text = text }

-- what a run stands on: the state of its engine, and the files, where they are told
pub record RunState : Type 0 where
  pub engine : State
  pub files : Option FileMap

abbrev pub run_state : State → Option FileMap → RunState
run_state engine files = record { engine = engine; files = files }

-- One command from a state writes its block and leaves the next state. None changes a file.
pub data Step (s : RunState) (c : Command) (block : Text) (new : RunState) : Type 0 where
  -- a text that is refused changes nothing
  refused : (e : FormRefusal) → e ≢ form.NoMemory → ReadsAs every_word c.text (Err e) → block ≡ form_block c.number e → new ≡ s → Step s c block new
  carried : (k : ScriptCommand) → ReadsAs every_word c.text (Ok k) → CarriesOut s.files s.engine k block new.engine → new.files ≡ s.files → Step s c block new

-- an edit has a formula that was read
abbrev pub IsReadCommand : ScriptCommand → Type 0
IsReadCommand (command.Edit e) = IsRead e
IsReadCommand k = Unit {0}

-- a command asks for a file
abbrev pub NeedsFile : ScriptCommand → Type 0
NeedsFile (command.Table name file) = Unit {0}
NeedsFile k = ⊥

-- a text says such a command
pub record AsksFile (text : List ℕ) : Type 0 where
  pub command : ScriptCommand
  pub reads : ReadsAs every_word text (Ok command)
  pub needs : NeedsFile command
