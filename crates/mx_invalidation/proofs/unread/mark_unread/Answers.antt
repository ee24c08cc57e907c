use Rattle.mx_invalidation.proofs.Steps.{live_node}
use Rattle.mx_invalidation.proofs.unread.mark_unread.Goals as goal

pub mark_one_unread-requires : goal.mark_one_unread-requires
mark_one_unread-requires c = live_node c.args.graph.now.nodes c.loop-key.graph.nodes c.args.keys.now c.requires c.loop-key.key-index c.loop-key.invariant.live
