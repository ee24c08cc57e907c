use Rattle.mx_ops.proofs.Mismatches.{more}
use Rattle.mx_ops.proofs.apply.apply_to_more.Goals as goal

pub returns-in_default : goal.returns-in_default
returns-in_default c =
    rw c.mismatch.ensures (more c.args.op c.args.operands.now c.requires c.in_default.not-Min c.in_default.not-Max c.in_default.not-Range)
