use Rattle.mx_vertices.specs.Places.{key_place}
use Rattle.mx_invalidation.proofs.Steps.{live_entry}
use Rattle.mx_invalidation.proofs.marking.mark_changed.Goals as goal

pub mark_one-requires : goal.mark_one-requires
mark_one-requires g c = live_entry key_place c.args.graph.now.nodes c.loop-key.graph.nodes c.args.slots.now c.args.keys.now c.requires c.loop-key.key-index c.loop-key.invariant.live
