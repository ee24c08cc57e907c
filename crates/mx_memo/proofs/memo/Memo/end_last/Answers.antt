use Rattle.std.specs.HashMap.{get as look_up}
use Rattle.mx_value.specs.Equality.{node_eq}
use Rattle.mx_vertices.proofs.Begun.{IsMarked, ended}
use Rattle.mx_memo.proofs.memo.Memo.end_last.Goals as goal

pub invariant_of-self : goal.invariant_of-self
invariant_of-self c =
    let i = c.self.invariant in
    let m : IsMarked (look_up node_eq c.end_in.new.table) c.end_in.new.begun.items c.self.inside.slots.items c.self.inside.order.items
    = ended c.node_laws.ensures (look_up node_eq c.self.inside.table.nodes) (look_up node_eq c.end_in.new.table) c.self.inside.begun.items c.end_in.new.begun.items c.self.inside.slots.items c.self.inside.order.items c.end_in.result
    c.end_in.ensures.begun c.end_in.ensures.table (i.begun, i.begun_once, i.found.nodes, i.found.right) in
    record { whole = i.whole; found = record { nodes = m.2; right = m.3; keys = i.found.keys }; begun = m.0; begun_once = m.1; counted = i.counted; few = i.few }
