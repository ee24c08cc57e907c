use Rattle.std.proofs.Common.{◌≡◌, None, length}
use Rattle.mx_script.specs.Given.{commands_left}
use Rattle.mx_script.proofs.commands.next_command.Given as goal

abbrev pub invariant-lines : goal.invariant-lines
invariant-lines l = commands_left l.words l.initial.lines.number None l.initial.lines.rest.now
    ≡ commands_left l.words l.lines.number None l.lines.rest.now

abbrev pub decreases-lines : goal.decreases-lines
decreases-lines l = length l.lines.rest.now
