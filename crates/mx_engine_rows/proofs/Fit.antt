-- What rows ask for is such as the engine's calls take.
use Rattle.std.proofs.Common.{ℕ, List, Ok}
use Rattle.mx_words.specs.declared.command.Command.{Command}
use Rattle.mx_words.specs.declared.command.Command.TheVariants as command
use Rattle.mx_words.specs.Words.{every_word}
use Rattle.mx_script.specs.Commands.{ReadsAs}
use Rattle.mx_command_laws.specs.Edits.{EditsAreRead}
use Rattle.mx_command_laws.specs.Commands.{CommandsAreProper}
use Rattle.mx_engine_rows.specs.Rows.{IsFitCommand}

-- a command that a text says
pub fit_command : EditsAreRead → CommandsAreProper → (text : List ℕ) (k : Command) → ReadsAs every_word text (Ok k) → IsFitCommand k
fit_command read proper text (command.Edit e) h = record { read = read every_word text e h; small = proper every_word text (command.Edit e) h }
fit_command read proper text (command.Table name file) h = tt
fit_command read proper text (command.Eval n) h = tt
fit_command read proper text (command.Precedents n) h = tt
fit_command read proper text (command.Succs n) h = tt
fit_command read proper text (command.Held n) h = tt
fit_command read proper text (command.Clear scope) h = tt
fit_command read proper text (command.Limit limit) h = tt
fit_command read proper text (command.Order path) h = tt
