use Rattle.std.proofs.Common.{◌∙◌, List, Option, ap, sym, subst}
use Rattle.mx_graph.specs.declared.ids.NodeId.{NodeId}
use Rattle.mx_edit.specs.declared.key.Key.{Key}
use Rattle.mx_vertices.specs.declared.slot.Slot.{Slot}
use Rattle.mx_vertices.specs.Kept.{entries}
use Rattle.mx_vertices.specs.Live.{AreLive}
use Rattle.mx_vertices.specs.Walks.{keys_read, AreHeldKeys}
use Rattle.mx_invalidation.proofs.HeldKeys.{all_held}
use Rattle.mx_memo.specs.Memos.{Memory}
use Rattle.mx_memo.proofs.memo.Memo.all_keys.Goals as goal

pub of-requires : goal.of-requires
of-requires c = subst (λ (xs : List (Option NodeId)). AreLive c.self.inside.graph.nodes xs) (sym c.deref-2.ensures.value) (λ p id e. (c.self.invariant.whole.placed.keys_in.told p id e).1)

pub returns : goal.returns
returns c =
    subst (λ (m : Memory). AreHeldKeys m.held c.of.result) c.self.view_is
    (subst (λ (ks : List Key). AreHeldKeys (entries c.self.inside.graph.edges c.self.inside.slots.items 0 c.self.inside.order.items) ks)
    (sym (c.of.ensures ∙ ap (λ (xs : List Slot). keys_read c.self.inside.graph.edges xs c.deref-2.result.now) c.deref.ensures.value ∙ ap (λ (xs : List (Option NodeId)). keys_read c.self.inside.graph.edges c.self.inside.slots.items xs) c.deref-2.ensures.value))
    (all_held c.self.inside.graph c.self.inside.slots.items c.self.inside.order.items c.self.inside.keys.items c.self.invariant.whole c.relation.ensures))
