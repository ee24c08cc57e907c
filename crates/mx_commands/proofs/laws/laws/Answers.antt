use Rattle.mx_commands.proofs.Alike.{one_block}
use Rattle.mx_commands.proofs.Faithful.{stays_faithful}
use Rattle.mx_commands.proofs.laws.laws.Goals as goal

pub returns : goal.returns
returns c = record { one_block = one_block; stays_faithful = stays_faithful }
