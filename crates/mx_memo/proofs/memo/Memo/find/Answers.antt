use Rattle.std.proofs.Common.{◌≡◌, ◌∙◌, Some, None, ap, sym, subst}
use Rattle.std.specs.Prelude.{option_copied}
use Rattle.std.specs.HashMap.{get as look_up}
use Rattle.mx_value.specs.Equality.{node_eq}
use Rattle.mx_vertices.specs.declared.standing.Standing.TheVariants.{Begun, Ended}
use Rattle.mx_vertices.specs.Found.{IsNew, IsHeldAs}
use Rattle.mx_memo.specs.Memos.{Memory}
use Rattle.mx_vertices.proofs.Table.{new_none, new_begun, held_as}
use Rattle.mx_memo.proofs.memo.Memo.find.Goals as goal

pub returns-in_default-clause-none : goal.returns-in_default-clause-none
returns-in_default-clause-none c =
    let none : look_up node_eq c.self.inside.table.nodes c.args.node.now ≡ None = sym c.get.ensures.value ∙ ap option_copied c.in_default.is in
    subst (λ (m : Memory). IsNew m.held c.args.node.now) c.self.view_is
    (new_none c.self.inside.graph c.self.inside.slots.items c.self.inside.order.items c.self.inside.keys.items c.self.invariant.whole (look_up node_eq c.self.inside.table.nodes) c.self.invariant.found.nodes c.args.node.now none)

pub returns-clause-some : goal.returns-clause-some
returns-clause-some c =
    let some : look_up node_eq c.self.inside.table.nodes c.args.node.now ≡ Some (Ended c.in-Ended.id) = sym c.get.ensures.value ∙ ap option_copied c.in-Some.is ∙ ap Some c.in-Ended.is in
    subst (λ (m : Memory). IsHeldAs m.held c.in-Ended.id.at c.args.node.now) c.self.view_is
    (held_as c.self.inside.graph c.self.inside.slots.items c.self.inside.order.items c.self.inside.keys.items c.self.invariant.whole (look_up node_eq c.self.inside.table.nodes) c.self.invariant.found.nodes c.args.node.now c.in-Ended.id.at
    (c.self.invariant.found.right c.args.node.now c.in-Ended.id some))

pub returns-in_default-standing-clause-none : goal.returns-in_default-standing-clause-none
returns-in_default-standing-clause-none c =
    let some : look_up node_eq c.self.inside.table.nodes c.args.node.now ≡ Some Begun = sym c.get.ensures.value ∙ ap option_copied c.in-Some.is ∙ ap Some c.in_default-standing.is in
    subst (λ (m : Memory). IsNew m.held c.args.node.now) c.self.view_is
    (new_begun c.self.inside.graph c.self.inside.slots.items c.self.inside.order.items c.self.inside.keys.items c.self.invariant.whole (look_up node_eq c.self.inside.table.nodes) c.self.invariant.found.nodes c.args.node.now some)
