use Rattle.std.proofs.Common.{inl, inr, ap, arith}
use Rattle.mx_c3.specs.declared.space.SpaceId.{SpaceId}
use Rattle.mx_c3.proofs.ListLemmas.{has_more}
use Rattle.mx_c3.proofs.counts.bound_of.Goals as goal

pub loop-space-preserved : goal.loop-space-preserved
loop-space-preserved c = record {
  least = omega (arith, c.max-bound.ensures);
  above = λ x m.
      elim (has_more c.args.spaces.now c.loop-space.space-index (record { 0 = 0 }) x c.loop-space-test.true m) [
        | inl a ↦ omega (arith, c.loop-space.invariant.above x a, c.max-bound.ensures)
        | inr e ↦ omega (arith, ap (λ (z : SpaceId). z.0) e, c.max-bound.ensures)
      ];
}
