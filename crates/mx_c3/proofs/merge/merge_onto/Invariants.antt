use Rattle.std.proofs.Common.{◌≡◌}
use Rattle.mx_c3.specs.Merge.{merge, put_all, size}
use Rattle.mx_c3.specs.Counts.{IsCounted}
use Rattle.mx_c3.proofs.merge.merge_onto.Given as goal

abbrev pub invariant-loop-space : goal.invariant-loop-space
invariant-loop-space l = record {
  counted : IsCounted l.rest.items l.counts.items;
  same : put_all l.order.items (merge l.rest.items) ≡ put_all l.initial.order.items (merge l.initial.rest.items);
}

abbrev pub decreases-loop-space : goal.decreases-loop-space
decreases-loop-space l = size l.rest.items
