use Rattle.std.proofs.Common.{◌≡◌, ◌∙◌, ◌++◌, List, ap, sym, subst}
use Rattle.mx_vertices.specs.declared.slot.Slot.{Slot}
use Rattle.mx_vertices.specs.Places.{slot_at}
use Rattle.mx_vertices.specs.Kept.{IsHeld, own_key, kept, sources_at}
use Rattle.mx_vertices.specs.Found.{node_at}
use Rattle.mx_vertices.proofs.Walking.{keys_push}
use Rattle.mx_vertices.specs.Reading.{LookedUp, keys_in}
use Rattle.mx_memo.specs.Memos.{Memory}
use Rattle.mx_vertices.proofs.Reading.{held_node, held_kept, held_live, node_not_free, ok_map}
use Rattle.mx_memo.proofs.memo.Memo.keys_of.Goals as goal

pub keys_at-requires : goal.keys_at-requires
keys_at-requires c =
    let node = held_node c.self.inside.graph c.self.inside.slots.items c.self.inside.order.items c.self.inside.keys.items c.self.invariant.whole c.args.id.at (subst (λ (m : Memory). IsHeld m.held c.args.id.at) (sym c.self.view_is) c.requires) in
    held_live c.self.inside.graph.nodes c.self.inside.slots.items c.self.inside.order.items c.self.inside.keys.items c.self.invariant.whole.placed c.args.id.at (node_not_free (slot_at c.self.inside.slots.items c.args.id.at) node)

pub returns : goal.returns
returns c =
    let node = held_node c.self.inside.graph c.self.inside.slots.items c.self.inside.order.items c.self.inside.keys.items c.self.invariant.whole c.args.id.at (subst (λ (m : Memory). IsHeld m.held c.args.id.at) (sym c.self.view_is) c.requires) in
    let k = held_kept c.self.inside.graph c.self.inside.slots.items c.self.inside.order.items c.self.inside.keys.items c.self.invariant.whole c.args.id.at node in
    ok_map c.keys_at.result (λ keys. keys.items ≡ keys_in (own_key (node_at c.deref.result.now c.args.id.at)) ++ keys_in (sources_at c.deref.result.now c.args.id.at c.self.inside.graph.edges)) (λ keys. LookedUp c.args.self.now.held c.args.id.at keys.items)
    (λ keys e.
    subst (λ (m : Memory). LookedUp m.held c.args.id.at keys.items) c.self.view_is
    (record {
      entry = kept c.self.inside.graph.edges c.self.inside.slots.items k.0 k.1;
      among = k.2;
      id_is = k.3;
      are =
          e
          ∙ ap (λ (xs : List Slot). keys_in (own_key (node_at xs c.args.id.at)) ++ keys_in (sources_at xs c.args.id.at c.self.inside.graph.edges)) c.deref.ensures.value
          ∙ ap (λ q. keys_in (own_key (node_at c.self.inside.slots.items q)) ++ keys_in (sources_at c.self.inside.slots.items q c.self.inside.graph.edges)) (sym k.3)
          ∙ sym (keys_push (own_key (node_at c.self.inside.slots.items k.1.at)) (sources_at c.self.inside.slots.items k.1.at c.self.inside.graph.edges));
    }))
    c.keys_at.ensures
