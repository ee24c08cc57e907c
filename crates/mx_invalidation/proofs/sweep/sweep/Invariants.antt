use Rattle.std.proofs.Common.{◌≡◌}
use Rattle.std.specs.FinMap as map
use Rattle.mx_vertices.specs.Places.{held_in}
use Rattle.std.specs.HashMap.{get as look_up}
use Rattle.mx_value.specs.Equality.{node_eq}
use Rattle.mx_value.specs.declared.node.Node.{Node as Asked}
use Rattle.mx_vertices.specs.Found.{IsIndexed, is_begun}
use Rattle.mx_invalidation.proofs.Sweeping.{IsSweeping}
use Rattle.mx_invalidation.proofs.sweep.sweep.Given as goal

abbrev pub invariant-marked : goal.invariant-marked
invariant-marked l = record {
  sweeping : IsSweeping l.fn.graph l.fn.slots.items l.fn.order.items l.fn.keys.items l.graph l.slots.items l.order.items l.keys.items;
  begun : (n : Asked) → is_begun (look_up node_eq l.table.nodes n) ≡ is_begun (look_up node_eq l.fn.table.nodes n);
  found : IsIndexed l.table l.slots.items l.order.items;
  count : l.count ≡ held_in l.order.items;
}

abbrev pub decreases-marked : goal.decreases-marked
decreases-marked l = map.len l.graph.nodes
