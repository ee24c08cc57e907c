use Rattle.std.proofs.Common.{sym, subst}
use Rattle.mx_c3.specs.Counts.{AreZeros}
use Rattle.mx_c3.proofs.CountLemmas.{zeros_push}
use Rattle.mx_c3.proofs.table.grown.Goals as goal

pub loop-counts-preserved : goal.loop-counts-preserved
loop-counts-preserved c = subst (λ ns. AreZeros ns) (sym c.in_ok-push.ensures.items) (zeros_push c.loop-counts.counts.items c.loop-counts.invariant)
