use Rattle.mx_invalidation.proofs.Steps.{live_node}
use Rattle.mx_invalidation.proofs.marking.mark_where.Goals as goal

pub mark_if-requires : goal.mark_if-requires
mark_if-requires g c = live_node c.args.graph.now.nodes c.loop-node.graph.nodes c.args.order.now c.requires c.loop-node.node-index c.loop-node.invariant.live
