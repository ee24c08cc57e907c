use Rattle.std.proofs.Common.{◌<◌, get_or, arith}
use Rattle.mx_c3.specs.declared.space.SpaceId.{SpaceId}
use Rattle.mx_c3.proofs.ListLemmas.{has_at}
use Rattle.mx_c3.proofs.InOrderLemmas.{below_more}
use Rattle.mx_c3.proofs.lists.are_below.Goals as goal

pub returns-then-space-bound : goal.returns-then-space-bound
returns-then-space-bound c = (
  λ t. absurd cc,
  λ b.
      let y : SpaceId = get_or c.args.spaces.now c.loop-space.space-index (record { 0 = 0 }) in
      let l : y.0 < c.args.bound = b y (has_at c.args.spaces.now c.loop-space.space-index (record { 0 = 0 }) c.loop-space-test.true) in
      absurd (omega arith),
)

pub loop-space-preserved : goal.loop-space-preserved
loop-space-preserved c = below_more c.args.spaces.now c.loop-space.space-index c.args.bound (record { 0 = 0 }) c.loop-space-test.true c.loop-space.invariant (omega arith)
