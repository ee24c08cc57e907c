use Rattle.std.proofs.Common.{sym}
use Rattle.mx_members.proofs.ChunkLemmas.{take_more}
use Rattle.mx_members.proofs.chunks.Chunks.to_vec.Goals as goal

pub loop-at-preserved : goal.loop-at-preserved
loop-at-preserved g c =
    take_more c.args.self.now c.loop-at.items.items c.push.new.self.items c.loop-at.at c.in-Some.item.now c.in_ok-share.field-0 c.loop-at.invariant (sym c.in-Some.ensures) c.in_ok-share.ensures c.in_ok-push.ensures.items
