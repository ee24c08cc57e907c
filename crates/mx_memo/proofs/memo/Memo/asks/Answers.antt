use Rattle.std.proofs.Common.{◌∙◌, List, ap, sym, subst}
use Rattle.mx_vertices.specs.declared.slot.Slot.{Slot}
use Rattle.mx_vertices.specs.Places.{slot_at}
use Rattle.mx_vertices.specs.Kept.{IsHeld, kept, sources_at}
use Rattle.mx_vertices.specs.Reading.{Asked, asks_in}
use Rattle.mx_vertices.specs.Found.{node_at}
use Rattle.mx_vertices.proofs.Walking.{asks_own}
use Rattle.mx_memo.specs.Memos.{Memory}
use Rattle.mx_vertices.proofs.Reading.{held_node, held_kept, held_live, node_not_free}
use Rattle.mx_memo.proofs.memo.Memo.asks.Goals as goal

pub of-requires : goal.of-requires
of-requires c =
    let node = held_node c.self.inside.graph c.self.inside.slots.items c.self.inside.order.items c.self.inside.keys.items c.self.invariant.whole c.args.id.at (subst (λ (m : Memory). IsHeld m.held c.args.id.at) (sym c.self.view_is) c.requires) in
    held_live c.self.inside.graph.nodes c.self.inside.slots.items c.self.inside.order.items c.self.inside.keys.items c.self.invariant.whole.placed c.args.id.at (node_not_free (slot_at c.self.inside.slots.items c.args.id.at) node)

pub returns : goal.returns
returns c =
    let node = held_node c.self.inside.graph c.self.inside.slots.items c.self.inside.order.items c.self.inside.keys.items c.self.invariant.whole c.args.id.at (subst (λ (m : Memory). IsHeld m.held c.args.id.at) (sym c.self.view_is) c.requires) in
    let k = held_kept c.self.inside.graph c.self.inside.slots.items c.self.inside.order.items c.self.inside.keys.items c.self.invariant.whole c.args.id.at node in
    subst (λ (m : Memory). Asked m.held c.args.id.at c.of.result) c.self.view_is
    (record {
      entry = kept c.self.inside.graph.edges c.self.inside.slots.items k.0 k.1;
      among = k.2;
      id_is = k.3;
      are =
          c.of.ensures
          ∙ ap (λ (xs : List Slot). asks_in (sources_at xs c.args.id.at c.self.inside.graph.edges)) c.deref.ensures.value
          ∙ ap (λ q. asks_in (sources_at c.self.inside.slots.items q c.self.inside.graph.edges)) (sym k.3)
          ∙ sym (asks_own (node_at c.self.inside.slots.items k.1.at) (sources_at c.self.inside.slots.items k.1.at c.self.inside.graph.edges));
    })
