use Rattle.std.proofs.Common.{refl}
use Rattle.mx_life.proofs.project.table_mort.Goals as goal

pub returns : goal.returns
returns c = refl
