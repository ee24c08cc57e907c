-- The commands of a script to this program, which knows every word.
use Rattle.std.specs.Prelude.{ℕ, List, Option}
use Rattle.mx_words.specs.Words.{every_word}
use Rattle.mx_script.specs.Script.{Command, Taken}
use Rattle.mx_script.specs.Script as script

abbrev pub started : ℕ → List ℕ → Taken
started = script.started every_word

abbrev pub taken : ℕ → Option Command → List ℕ → Taken
taken = script.taken every_word

abbrev pub complete : ℕ → Option Command → List (List ℕ) → List Command
complete = script.complete every_word

abbrev pub pending_after : ℕ → Option Command → List (List ℕ) → Option Command
pending_after = script.pending_after every_word

-- the commands that are complete in bytes that may go on
abbrev pub complete_commands : List ℕ → List Command
complete_commands = script.complete_commands every_word

-- all commands of a script
abbrev pub commands : List ℕ → List Command
commands = script.commands every_word
