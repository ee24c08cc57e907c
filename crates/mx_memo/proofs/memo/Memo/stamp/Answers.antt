use Rattle.std.proofs.Common.{◌≡◌, ◌∙◌, ◌<◌, ◌+◌, List, Some, length, ap, sym, subst, arith}
use Rattle.mx_vertices.specs.declared.slot.Slot.{Slot}
use Rattle.mx_vertices.specs.Places.{slot_at, node_place}
use Rattle.mx_vertices.specs.Kept.{IsHeld, IsNode}
use Rattle.mx_invalidation.specs.Stamps.{IsHeldSince}
use Rattle.mx_memo.specs.Memos.{Memory}
use Rattle.mx_vertices.proofs.Places.{at_below}
use Rattle.mx_vertices.proofs.Reading.{held_node}
use Rattle.mx_invalidation.proofs.Stamping.{held_since}
use Rattle.mx_memo.proofs.memo.Memo.stamp.Goals as goal

pub prove-unreachable-requires : goal.prove-unreachable-requires
prove-unreachable-requires c =
    let place : node_place (slot_at c.self.inside.slots.items c.args.id.at) ≡ Some c.in-Some.place
    = ap (λ (xs : List Slot). node_place (slot_at xs c.args.id.at)) (sym c.deref.ensures.value) ∙ c.in-Some.ensures in
    let st = c.self.invariant.whole.placed.nodes_in.stands c.args.id.at c.in-Some.place place in
    let below : c.in-Some.place < length c.self.inside.order.items = at_below c.self.inside.order.items c.in-Some.place st.id st.there in
    let len = c.len.ensures in
    let over = c.if-prove.true in
    omega (arith, below, len, over)

pub returns : goal.returns
returns c =
    let place : node_place (slot_at c.self.inside.slots.items c.args.id.at) ≡ Some c.in-Some.place
    = ap (λ (xs : List Slot). node_place (slot_at xs c.args.id.at)) (sym c.deref.ensures.value) ∙ c.in-Some.ensures in
    subst (λ (m : Memory). IsHeldSince m.held c.args.id.at (c.in-Some.place + 1)) c.self.view_is
    (held_since c.self.inside.graph c.self.inside.slots.items c.self.inside.order.items c.self.inside.keys.items c.self.invariant.whole c.args.id.at c.in-Some.place place)

pub returns-in_default : goal.returns-in_default
returns-in_default c h =
    c.in_default.ensures
    (subst (λ (xs : List Slot). IsNode (slot_at xs c.args.id.at)) (sym c.deref.ensures.value)
    (held_node c.self.inside.graph c.self.inside.slots.items c.self.inside.order.items c.self.inside.keys.items c.self.invariant.whole c.args.id.at (subst (λ (m : Memory). IsHeld m.held c.args.id.at) (sym c.self.view_is) h)))
