-- What the texts of commands say is within the limits of values.
use Rattle.std.specs.Prelude.{ℕ, List, Ok}
use Rattle.mx_words.specs.declared.command.Command.{Command}
use Rattle.mx_words.specs.declared.command.Command.TheVariants as command
use Rattle.mx_words.specs.declared.table.CommandWord.{CommandWord}
use Rattle.mx_script.specs.Commands.{ReadsAs}
use Rattle.mx_state.specs.Proper.{IsProper}
use Rattle.mx_limit_laws.specs.Texts.{HasSmallFormula}

-- the formula or parameter list of an edit has small literals, and a node that is evaluated may be handed in
abbrev pub IsProperCommand : Command → Type 0
IsProperCommand (command.Edit e) = HasSmallFormula e
IsProperCommand (command.Table name file) = Unit {0}
IsProperCommand (command.Eval n) = IsProper n
IsProperCommand (command.Precedents n) = IsProper n
IsProperCommand (command.Succs n) = Unit {0}
IsProperCommand (command.Held n) = Unit {0}
IsProperCommand (command.Clear scope) = Unit {0}
IsProperCommand (command.Limit limit) = Unit {0}
IsProperCommand (command.Order path) = Unit {0}

-- whichever words there are, such is a command that a text says
abbrev pub CommandsAreProper : Type 0
CommandsAreProper =
    (words : List CommandWord) (text : List ℕ) (k : Command) → ReadsAs words text (Ok k) → IsProperCommand k
