use Rattle.std.proofs.Common.{◌-◌}
use Rattle.mx_engine.proofs.Sought.{NotUpTo}
use Rattle.mx_engine.proofs.holds.holds.Given as goal

abbrev pub invariant-loop-id : goal.invariant-loop-id
invariant-loop-id l = NotUpTo l.memo.held l.node l.seen

abbrev pub decreases-loop-id : goal.decreases-loop-id
decreases-loop-id l = l.memo.last - l.seen
