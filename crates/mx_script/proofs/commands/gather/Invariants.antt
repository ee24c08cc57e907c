use Rattle.std.proofs.Common.{◌≡◌, List, Some, length}
use Rattle.mx_words.specs.declared.table.CommandWord.{CommandWord}
use Rattle.mx_script.specs.Given.{command_of, commands_left}
use Rattle.mx_script.proofs.commands.gather.Given as goal

abbrev pub invariant-lines : goal.invariant-lines
invariant-lines l = ((words : List CommandWord)
    → commands_left words l.initial.lines.number (Some (command_of l.initial.whole)) l.initial.lines.rest.now
    ≡ commands_left words l.lines.number (Some (command_of l.whole)) l.lines.rest.now)
    × (l.whole.number ≡ l.initial.whole.number)

abbrev pub decreases-lines : goal.decreases-lines
decreases-lines l = length l.lines.rest.now
