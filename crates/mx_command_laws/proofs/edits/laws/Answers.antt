use Rattle.mx_command_laws.proofs.EditCommands.{edits_are_read}
use Rattle.mx_command_laws.proofs.edits.laws.Goals as goal

pub returns : goal.returns
returns c = record { edits_are_read = edits_are_read }
