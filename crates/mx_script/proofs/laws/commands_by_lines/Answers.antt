use Rattle.mx_script.proofs.ByLines.{commands_are, commands_only, whole_lines_say}
use Rattle.mx_script.proofs.laws.commands_by_lines.Goals as goal

pub returns-clause-are : goal.returns-clause-are
returns-clause-are c = commands_are

pub returns-clause-only : goal.returns-clause-only
returns-clause-only c = commands_only

pub returns-clause-complete : goal.returns-clause-complete
returns-clause-complete c = whole_lines_say
