use Rattle.std.proofs.Common.{◌<◌, get_or, arith}
use Rattle.mx_c3.specs.declared.space.SpaceId.{SpaceId}
use Rattle.mx_c3.proofs.ListLemmas.{has_at}
use Rattle.mx_c3.proofs.InOrderLemmas.{below_more}
use Rattle.mx_paths.proofs.orders.are_before.Goals as goal

pub returns-then-base-space : goal.returns-then-base-space
returns-then-base-space c = (
  λ t. absurd cc,
  λ b.
      let y : SpaceId = get_or c.args.bases.now c.loop-base.base-index (record { 0 = 0 }) in
      let l : y.0 < c.args.space.0 = b y (has_at c.args.bases.now c.loop-base.base-index (record { 0 = 0 }) c.loop-base-test.true) in
      absurd (omega arith),
)

pub loop-base-preserved : goal.loop-base-preserved
loop-base-preserved c = below_more c.args.bases.now c.loop-base.base-index c.args.space.0 (record { 0 = 0 }) c.loop-base-test.true c.loop-base.invariant (omega arith)
