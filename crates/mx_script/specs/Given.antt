-- Commands that are given one after another.
use Rattle.std.specs.Prelude.{ℕ, List, Option}
use Rattle.std.specs.Option.{option_map}
use Rattle.std.specs.Iterator.{YieldsFirstBy}
use Rattle.mx_words.specs.declared.table.CommandWord.{CommandWord}
use Rattle.mx_script.specs.Script.{Command, lines_of, commands_from}
use Rattle.mx_script.specs.declared.commands.Pending.{Pending}

abbrev pub command_of : Pending → Command
command_of p = record { number = p.number; text = p.text.items }

abbrev pub pending_of : Option Pending → Option Command
pending_of p = option_map command_of p

-- all commands of the bytes that are left of a file, whose next line has this number, behind one that may go on
abbrev pub commands_left : List CommandWord → ℕ → Option Command → List ℕ → List Command
commands_left words number pending rest = commands_from words number pending (lines_of rest)

-- of these commands the first is given and the others are left, or there is none
abbrev pub Gives : List Command → Option Pending → List Command → Type 0
Gives = YieldsFirstBy command_of (λ (left : List Command). left)
