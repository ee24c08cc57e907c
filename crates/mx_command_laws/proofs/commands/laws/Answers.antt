use Rattle.mx_command_laws.proofs.ProperCommands.{commands_are_proper}
use Rattle.mx_command_laws.proofs.commands.laws.Goals as goal

pub returns : goal.returns
returns c = commands_are_proper
