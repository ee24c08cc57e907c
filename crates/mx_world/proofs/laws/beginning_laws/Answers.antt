use Rattle.mx_world.proofs.Beginning.{begins_valid, begins_named}
use Rattle.mx_world.proofs.laws.beginning_laws.Goals as goal

pub returns-clause-valid : goal.returns-clause-valid
returns-clause-valid c = begins_valid

pub returns-clause-named : goal.returns-clause-named
returns-clause-named c = begins_named
