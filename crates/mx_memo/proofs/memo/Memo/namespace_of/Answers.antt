use Rattle.std.proofs.Common.{◌≡◌, ◌∙◌, ℕ, List, Option, Some, None, ap, sym, subst, inl, refl}
use Rattle.std.specs.Prelude.{MatchOption}
use Rattle.std.specs.HashMap.{get as look_up}
use Rattle.mx_value.specs.Equality.{node_eq}
use Rattle.mx_value.specs.declared.namespace.Namespace.{Namespace}
use Rattle.mx_vertices.specs.declared.slot.Slot.{Slot}
use Rattle.mx_vertices.specs.Places.{slot_at}
use Rattle.mx_vertices.specs.Found.{LeadsTo, IsNodeAt}
use Rattle.mx_vertices.specs.Kept.{body_of}
use Rattle.mx_vertices.proofs.Statics.{leads}
use Rattle.mx_memo.specs.Memos.{Memory}
use Rattle.mx_memo.specs.Namespaces.{namespace_held}
use Rattle.mx_memo.proofs.Held.{namespace_at, namespace_none}
use Rattle.mx_memo.proofs.memo.Memo.namespace_of.Goals as goal

pub find_held-requires : goal.find_held-requires
find_held-requires c =
    subst (λ (xs : List Slot). LeadsTo (look_up node_eq c.self.inside.table.nodes) xs) (sym c.deref.ensures.value)
    (leads (look_up node_eq c.self.inside.table.nodes) c.self.inside.graph.nodes c.self.inside.slots.items c.self.inside.order.items c.self.invariant.whole.placed.nodes_in c.self.invariant.found.nodes)

pub returns-in_default : goal.returns-in_default
returns-in_default c =
    let none : (q : ℕ) → IsNodeAt c.self.inside.slots.items q c.args.node.now → ⊥
    = λ q i. (c.in_default.ensures q).0 (subst (λ (xs : List Slot). IsNodeAt xs q c.args.node.now) (sym c.deref.ensures.value) i) in
    ap (λ (m : Memory). namespace_held m.held c.args.node.now) (sym c.self.view_is)
    ∙ namespace_none c.node_laws.ensures c.self.inside.graph c.self.inside.slots.items c.self.inside.order.items c.self.inside.keys.items c.self.invariant.whole (look_up node_eq c.self.inside.table.nodes) c.self.invariant.found.nodes c.args.node.now none

pub returns : goal.returns
returns c =
    let there : IsNodeAt c.self.inside.slots.items c.in-Some.id.at c.args.node.now
    = subst (λ (xs : List Slot). IsNodeAt xs c.in-Some.id.at c.args.node.now) c.deref.ensures.value ((c.in-Some.ensures c.in-Some.id.at).1 (inl refl)) in
    let is : namespace_held c.args.self.now.held c.args.node.now ≡ (body_of (slot_at c.deref-2.result.now c.in-Some.id.at)).reply.namespace
    = ap (λ (m : Memory). namespace_held m.held c.args.node.now) (sym c.self.view_is)
    ∙ namespace_at c.node_laws.ensures c.self.inside.graph c.self.inside.slots.items c.self.inside.order.items c.self.inside.keys.items c.self.invariant.whole (look_up node_eq c.self.inside.table.nodes) c.self.invariant.found.nodes c.args.node.now c.in-Some.id there
    ∙ ap (λ (xs : List Slot). (body_of (slot_at xs c.in-Some.id.at)).reply.namespace) (sym c.deref-2.ensures.value) in
    subst (λ (o : Option Namespace). MatchOption c.namespace_at.result (o ≡ None) (λ n. o ≡ Some n.now)) (sym is) c.namespace_at.ensures
