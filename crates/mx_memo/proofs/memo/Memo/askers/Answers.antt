use Rattle.std.proofs.Common.{List, sym, subst}
use Rattle.mx_graph.specs.declared.ids.NodeId.{NodeId}
use Rattle.mx_vertices.specs.Places.{slot_at}
use Rattle.mx_vertices.specs.Kept.{asked, IsHeld, entries}
use Rattle.mx_vertices.specs.Reading.{AreTakers}
use Rattle.mx_memo.specs.Memos.{Memory}
use Rattle.mx_vertices.proofs.Reading.{held_node, held_live, node_not_free}
use Rattle.mx_vertices.proofs.Takers.{node_takers}
use Rattle.mx_memo.proofs.memo.Memo.askers.Goals as goal

pub of-requires : goal.of-requires
of-requires c =
    let node = held_node c.self.inside.graph c.self.inside.slots.items c.self.inside.order.items c.self.inside.keys.items c.self.invariant.whole c.args.id.at (subst (λ (m : Memory). IsHeld m.held c.args.id.at) (sym c.self.view_is) c.requires) in
    held_live c.self.inside.graph.nodes c.self.inside.slots.items c.self.inside.order.items c.self.inside.keys.items c.self.invariant.whole.placed c.args.id.at (node_not_free (slot_at c.self.inside.slots.items c.args.id.at) node)

pub returns : goal.returns
returns c =
    let node = held_node c.self.inside.graph c.self.inside.slots.items c.self.inside.order.items c.self.inside.keys.items c.self.invariant.whole c.args.id.at (subst (λ (m : Memory). IsHeld m.held c.args.id.at) (sym c.self.view_is) c.requires) in
    subst (λ (m : Memory). AreTakers m.held (asked c.args.id.at) c.of.result) c.self.view_is
    (subst (λ (xs : List NodeId). AreTakers (entries c.self.inside.graph.edges c.self.inside.slots.items 0 c.self.inside.order.items) (asked c.args.id.at) xs) (sym c.of.ensures)
    (node_takers c.self.inside.graph c.self.inside.slots.items c.self.inside.order.items c.self.inside.keys.items c.self.invariant.whole c.relation.ensures c.args.id node))
