use Rattle.std.proofs.Common.{◌-◌, ◌*◌, length}
use Rattle.mx_c3.proofs.LinearLemmas.{blanks}
use Rattle.mx_c3.proofs.Working.{Working}
use Rattle.mx_c3.proofs.linearise.linearise.Given as goal

abbrev pub invariant-loop-top : goal.invariant-loop-top
invariant-loop-top l = Working l.lists l.space l.orders.items l.pending.items

abbrev pub decreases-loop-top : goal.decreases-loop-top
decreases-loop-top l = 2 * blanks l.orders.items - length l.pending.items
