use Rattle.std.proofs.Common.{List, sym, subst}
use Rattle.mx_vertices.specs.declared.slot.Slot.{Slot}
use Rattle.mx_vertices.specs.Places.{slot_at}
use Rattle.mx_vertices.specs.Kept.{IsHeld, IsNode}
use Rattle.mx_vertices.specs.Found.{IsBodyAt, IsHeldWith}
use Rattle.mx_memo.specs.Memos.{Memory}
use Rattle.mx_vertices.proofs.Reading.{held_node}
use Rattle.mx_vertices.proofs.Table.{held_with, map_match}
use Rattle.mx_memo.proofs.memo.Memo.body.Goals as goal

pub returns : goal.returns
returns c =
    map_match c.body_at.result (IsNode (slot_at c.deref.result.now c.args.id.at) → ⊥) (IsHeld c.args.self.now.held c.args.id.at → ⊥) (λ body. IsBodyAt c.deref.result.now c.args.id.at body.now) (λ body. IsHeldWith c.args.self.now.held c.args.id.at body.now)
    (λ n h.
    n (subst (λ (xs : List Slot). IsNode (slot_at xs c.args.id.at)) (sym c.deref.ensures.value)
    (held_node c.self.inside.graph c.self.inside.slots.items c.self.inside.order.items c.self.inside.keys.items c.self.invariant.whole c.args.id.at (subst (λ (m : Memory). IsHeld m.held c.args.id.at) (sym c.self.view_is) h))))
    (λ body a.
    subst (λ (m : Memory). IsHeldWith m.held c.args.id.at body.now) c.self.view_is
    (held_with c.self.inside.graph c.self.inside.slots.items c.self.inside.order.items c.self.inside.keys.items c.self.invariant.whole c.args.id.at body.now
    (subst (λ (xs : List Slot). IsBodyAt xs c.args.id.at body.now) c.deref.ensures.value a)))
    c.body_at.ensures
