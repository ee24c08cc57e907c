use Rattle.mx_script.proofs.OneCommand.{only_command}
use Rattle.mx_script.proofs.command.read_command.Goals as goal

pub returns-clause-only : goal.returns-clause-only
returns-clause-only c = only_command c.args.words.now c.args.text.now c.read.result c.read.ensures
