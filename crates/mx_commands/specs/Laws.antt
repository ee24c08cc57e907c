-- Laws of what a command writes.
use Rattle.std.specs.Prelude.{◌≡◌, Option, None, Some}
use Rattle.mx_print.specs.Texts.{Text}
use Rattle.mx_words.specs.declared.command.Command.{Command as ScriptCommand}
use Rattle.mx_words.specs.declared.command.Command.TheVariants as command
use Rattle.mx_script.specs.Script.{Command}
use Rattle.mx_paths.specs.Names.{IsNamed}
use Rattle.mx_runs.specs.Lists.{Has}
use Rattle.mx_edit.specs.Entry.{Entry}
use Rattle.mx_answers.specs.Held.{HoldAlike}
use Rattle.mx_answers.specs.Records.{IsRecordOf}
use Rattle.mx_answers.specs.Answers.{IsSettled}
use Rattle.mx_state.specs.Model.{model_of}
use Rattle.mx_state.specs.State.{State}
use Rattle.mx_outside.specs.Files.{FileMap}
use Rattle.mx_commands.specs.Step.{RunState, Step, refused, carried, CarriesOut}

-- a faithful state: the spaces have names, and what is held are records of the runs over the text
pub record IsFaithful (s : State) : Type 0 where
  pub named : IsNamed s.text
  pub records : (e : Entry) → Has s.held e → IsRecordOf (model_of s.text) e

-- the states have the same text and limit, and hold the same nodes with the same values, in whatever order
pub record AreAlike (s t : State) : Type 0 where
  pub text : s.text ≡ t.text
  pub limit : s.limit ≡ t.limit
  pub held : HoldAlike s.held t.held

-- the same of what runs stand on: their files are the same, too
pub record AreRunsAlike (s t : RunState) : Type 0 where
  pub engine : AreAlike s.engine t.engine
  pub files : s.files ≡ t.files

abbrev pub AreTold : Option FileMap → Type 0
AreTold None = ⊥
AreTold (Some files) = Unit {0}

-- it is no evaluation that is too deep or full, and asks for no file that is not told
abbrev pub Says : (files : Option FileMap) (s : State) (k : ScriptCommand) (block : Text) (new : State) → CarriesOut files s k block new → Type 0
Says files s (command.Eval n) block new does = IsSettled does.answer
Says files s (command.Precedents n) block new does = IsSettled does.has.value
Says files s (command.Table name file) block new does = AreTold files
Says files s k block new does = Unit {0}

abbrev pub StepSays : (s : RunState) (c : Command) (block : Text) (new : RunState) → Step s c block new → Type 0
StepSays s c block new (refused e memory reads text same) = Unit {0}
StepSays s c block new (carried k reads does kept) = Says s.files s.engine k block new.engine does

-- from states that are alike and faithful a command writes one block and leaves states that are alike
abbrev pub OneBlock : Type 0
OneBlock = (s t : RunState) (c : Command) (block other : Text) (new next : RunState) → IsFaithful s.engine → IsFaithful t.engine → AreRunsAlike s t → (x : Step s c block new) → Step t c other next → StepSays s c block new x
    → (block ≡ other) × AreRunsAlike new next

-- a command leaves a faithful state
abbrev pub StaysFaithful : Type 0
StaysFaithful = (s : RunState) (c : Command) (block : Text) (new : RunState) → IsFaithful s.engine → Step s c block new → IsFaithful new.engine
