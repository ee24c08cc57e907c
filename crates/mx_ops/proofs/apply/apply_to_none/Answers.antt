use Rattle.mx_ops.proofs.Mismatches.{nullary}
use Rattle.mx_ops.proofs.apply.apply_to_none.Goals as goal

pub returns-in_default : goal.returns-in_default
returns-in_default c = rw c.mismatch.ensures (nullary c.args.op c.in_default.not-Tuple)
