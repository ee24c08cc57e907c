use Rattle.mx_prepare.proofs.Named.{empty_named, names_kept}
use Rattle.mx_prepare.proofs.lines.name_laws.Goals as goal

pub returns-clause-empty : goal.returns-clause-empty
returns-clause-empty c = empty_named

pub returns-clause-kept : goal.returns-clause-kept
returns-clause-kept c = names_kept
