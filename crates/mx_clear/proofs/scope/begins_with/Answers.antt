use Rattle.std.proofs.Common.{sym}
use Rattle.mx_clear.proofs.Beginning.{longer}
use Rattle.mx_clear.proofs.scope.begins_with.Goals as goal

pub returns-then-address-at : goal.returns-then-address-at
returns-then-address-at c = sym (longer c.args.at.now c.args.address.now c.if-address-at.true)
