use Rattle.std.proofs.Common.{sym, subst}
use Rattle.std.specs.HashMap.{get as look_up}
use Rattle.mx_value.specs.Equality.{node_eq}
use Rattle.mx_vertices.specs.Places.{Has}
use Rattle.mx_vertices.specs.Found.{IsNew}
use Rattle.mx_memo.specs.Memos.{Memory}
use Rattle.mx_vertices.proofs.Begun.{IsMarked, began, new_apart}
use Rattle.mx_memo.proofs.memo.Memo.begin.Goals as goal

pub invariant_of-self : goal.invariant_of-self
invariant_of-self c =
    let i = c.self.invariant in
    let once : Has c.self.inside.begun.items c.args.node.now → ⊥ = subst (λ (m : Memory). Has m.begun c.args.node.now → ⊥) (sym c.self.view_is) c.requires.once in
    let new = subst (λ (m : Memory). IsNew m.held c.args.node.now) (sym c.self.view_is) c.requires.new in
    let m : IsMarked (look_up node_eq c.begin_in.new.table) c.begin_in.new.begun.items c.self.inside.slots.items c.self.inside.order.items
    = began c.node_laws.ensures (look_up node_eq c.self.inside.table.nodes) (look_up node_eq c.begin_in.new.table) c.self.inside.begun.items c.begin_in.new.begun.items c.args.node.now c.self.inside.slots.items c.self.inside.order.items c.begin_in.result
    c.begin_in.ensures.begun c.begin_in.ensures.marked c.begin_in.ensures.stay c.begin_in.ensures.lost once (new_apart c.self.inside.graph.edges c.self.inside.slots.items c.self.inside.order.items c.args.node.now new) (i.begun, i.begun_once, i.found.nodes, i.found.right) in
    record { whole = i.whole; found = record { nodes = m.2; right = m.3; keys = i.found.keys }; begun = m.0; begun_once = m.1; counted = i.counted; few = i.few }
