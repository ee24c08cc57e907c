-- Edits that are refused, and commands that were read.
use Rattle.std.proofs.Common.{◌≢◌, ℕ, List, Ok, Err, refl}
use Rattle.mx_edit.specs.declared.edit.Edit.{Edit}
use Rattle.mx_edit.specs.declared.refusal.EditRefusal.{EditRefusal}
use Rattle.mx_edit.specs.declared.refusal.EditRefusal.TheVariants as refusal
use Rattle.mx_model.specs.Records.{ModelRecord}
use Rattle.mx_model.specs.Apply.{Apply}
use Rattle.mx_engine.specs.Refused.{IsRefusedBy}
use Rattle.mx_words.specs.declared.command.Command.{Command}
use Rattle.mx_words.specs.declared.command.Command.TheVariants as command
use Rattle.mx_words.specs.Words.{every_word}
use Rattle.mx_script.specs.Commands.{ReadsAs}
use Rattle.mx_command_laws.specs.Edits.{EditsAreRead}
use Rattle.mx_commands.specs.Step.{IsReadCommand}

-- a refusal that is no want of memory is what the edit comes to
pub applied : (text : ModelRecord) (e : Edit) (why : EditRefusal) → why ≢ refusal.NoMemory → IsRefusedBy text e (Err why) → Apply text e (Err why)
applied text e refusal.BadName memory h = h
applied text e refusal.NoSuchSpace memory h = h
applied text e refusal.NoSuchMember memory h = h
applied text e refusal.NameTaken memory h = h
applied text e refusal.WrongCount memory h = h
applied text e refusal.ItemAddress memory h = h
applied text e refusal.BadValue memory h = h
applied text e (refusal.InUse path) memory h = h
applied text e (refusal.Cycle paths) memory h = h
applied text e (refusal.TooMany limit) memory h = h
applied text e (refusal.NoOrder path) memory h = h
applied text e refusal.NoMemory memory h = absurd (memory refl)

-- a command that a text says has a formula that was read
pub read_command : EditsAreRead → (text : List ℕ) (k : Command) → ReadsAs every_word text (Ok k) → IsReadCommand k
read_command are_read text (command.Edit e) h = are_read every_word text e h
read_command are_read text (command.Table name file) h = tt
read_command are_read text (command.Eval n) h = tt
read_command are_read text (command.Precedents n) h = tt
read_command are_read text (command.Succs n) h = tt
read_command are_read text (command.Held n) h = tt
read_command are_read text (command.Clear scope) h = tt
read_command are_read text (command.Limit limit) h = tt
read_command are_read text (command.Order path) h = tt
