use Rattle.mx_plain.proofs.Outcomes.{fails, stands}
use Rattle.mx_plain.proofs.projection.laws.Goals as goal

pub returns-clause-fault : goal.returns-clause-fault
returns-clause-fault c = fails

pub returns-clause-number : goal.returns-clause-number
returns-clause-number c = stands
