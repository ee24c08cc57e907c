use Rattle.mx_frames.proofs.Looped.{from_at, past_at}
use Rattle.mx_frames.proofs.rings.frames_from.Goals as goal

pub returns-then-eq : goal.returns-then-eq
returns-then-eq c = λ h. from_at c.args.frames.now c.loop-at.at c.index-frames-at.result c.args.node.now c.get.result.now c.eq.result c.loop-at-test.true c.get.ensures c.eq.ensures c.if-eq.true

pub loop-at-preserved : goal.loop-at-preserved
loop-at-preserved c = λ h. past_at c.args.frames.now c.loop-at.at c.index-frames-at.result c.args.node.now c.get.result.now c.eq.result c.loop-at-test.true c.get.ensures c.eq.ensures c.if-eq.false (c.loop-at.invariant h)
