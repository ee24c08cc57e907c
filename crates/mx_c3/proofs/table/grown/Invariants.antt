use Rattle.std.proofs.Common.{◌-◌, length}
use Rattle.mx_c3.specs.Counts.{AreZeros}
use Rattle.mx_c3.proofs.table.grown.Given as goal

abbrev pub invariant-loop-counts : goal.invariant-loop-counts
invariant-loop-counts l = AreZeros l.counts.items

abbrev pub decreases-loop-counts : goal.decreases-loop-counts
decreases-loop-counts l = l.least - length l.counts.items
