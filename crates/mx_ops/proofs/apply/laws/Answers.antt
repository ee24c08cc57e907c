use Rattle.mx_ops.proofs.Alone.{at_most}
use Rattle.mx_ops.proofs.Counts.{up, down}
use Rattle.mx_ops.proofs.apply.laws.Goals as goal

pub returns : goal.returns
returns c = record { one_row = at_most; up = up; down = down }
