use Rattle.mx_project.proofs.ReadNamed.{read_named}
use Rattle.mx_project.proofs.ReadSmall.{read_small}
use Rattle.mx_project.proofs.laws.read_laws.Goals as goal

pub returns-clause-named : goal.returns-clause-named
returns-clause-named c = read_named

pub returns-clause-small : goal.returns-clause-small
returns-clause-small c = read_small
