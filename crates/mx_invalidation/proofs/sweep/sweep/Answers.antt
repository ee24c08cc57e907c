use Rattle.std.proofs.Common.{◌≡◌, ◌∙◌, List, refl, sym, ap, subst, arith}
use Rattle.std.specs.HashMap.{get as look_up}
use Rattle.mx_value.specs.Equality.{node_eq}
use Rattle.mx_vertices.specs.declared.slot.Slot.{Slot}
use Rattle.mx_vertices.specs.Found.{look_without, key_without}
use Rattle.mx_edit.specs.Equality.{key_eq}
use Rattle.mx_vertices.proofs.Watching.{watched_turn}
use Rattle.mx_vertices.proofs.Table.{found_turn, begun_turn}
use Rattle.mx_vertices.proofs.Right.{right_turn}
use Rattle.mx_graph.proofs.Removal.{rest-edges}
use Rattle.mx_vertices.specs.Places.{slot_at, node_place, key_place, cleared, held_in}
use Rattle.mx_vertices.proofs.Places.{can_clear, cleared_count, held_less}
use Rattle.mx_invalidation.proofs.Sweeping.{sweep_begin, sweep_turn, rest_of, sweep_same}
use Rattle.mx_invalidation.proofs.sweep.sweep.Goals as goal

pub marked-init : goal.marked-init
marked-init c = record { sweeping = sweep_begin c.args.graph.now c.args.slots.now.items c.args.order.now.items c.args.keys.now.items c.requires.placed; begun = λ n. refl; found = c.requires.found; count = c.requires.count }

pub clear-requires-clause-order : goal.clear-requires-clause-order
clear-requires-clause-order c = can_clear node_place c.marked.graph.nodes c.marked.slots.items c.marked.order.items c.marked.invariant.sweeping.placed.nodes_in c.index-at.result

pub clear-requires-clause-keys : goal.clear-requires-clause-keys
clear-requires-clause-keys c = can_clear key_place c.marked.graph.nodes c.marked.slots.items c.marked.keys.items c.marked.invariant.sweeping.placed.keys_in c.index-at.result

pub clear-requires-clause-count : goal.clear-requires-clause-count
clear-requires-clause-count c =
    let less = cleared_count c.marked.slots.items c.marked.order.items c.marked.graph.nodes c.index-at.result c.marked.invariant.sweeping.placed.nodes_in in
    let was = c.marked.invariant.count in
    omega (arith, less, was)

pub marked-preserved : goal.marked-preserved
marked-preserved c =
    let turn = sweep_turn c.args.graph.now c.args.slots.now.items c.args.order.now.items c.args.keys.now.items c.marked.graph c.take_marked.new.self c.marked.slots.items c.marked.order.items c.marked.keys.items c.in-Some.id c.marked.invariant.sweeping c.in-Some.ensures.some in
    record {
      sweeping =
          sweep_same c.args.graph.now c.args.slots.now.items c.args.order.now.items c.args.keys.now.items c.take_marked.new.self c.marked.slots.items c.clear.new.slots.items c.marked.order.items c.clear.new.order.items c.marked.keys.items c.clear.new.keys.items c.in-Some.id c.index-at.result c.index-at.ensures c.clear.ensures.slots c.clear.ensures.order c.clear.ensures.keys turn;
      begun = λ n.
          begun_turn c.node_laws.ensures (look_up node_eq c.marked.table.nodes) (look_up node_eq c.forget.new.table.nodes) c.marked.graph.nodes c.marked.slots.items c.marked.order.items c.index-at.result c.marked.invariant.sweeping.placed.nodes_in c.marked.invariant.found.nodes
          (λ n. subst (λ (xs : List Slot). look_up node_eq c.forget.new.table.nodes n ≡ look_without (slot_at xs c.index-at.result) (look_up node_eq c.marked.table.nodes) n) c.as_slice.ensures.value (c.forget.ensures.nodes n)) n
          ∙ c.marked.invariant.begun n;
      found = record {
        nodes = found_turn c.node_laws.ensures (look_up node_eq c.marked.table.nodes) (look_up node_eq c.forget.new.table.nodes) c.marked.graph.nodes c.marked.slots.items c.marked.order.items c.index-at.result c.marked.invariant.sweeping.placed.nodes_in c.marked.invariant.found.nodes
            (λ n. subst (λ (xs : List Slot). look_up node_eq c.forget.new.table.nodes n ≡ look_without (slot_at xs c.index-at.result) (look_up node_eq c.marked.table.nodes) n) c.as_slice.ensures.value (c.forget.ensures.nodes n))
            c.clear.new.slots.items c.clear.new.order.items c.clear.ensures.slots c.clear.ensures.order;
        right = right_turn c.node_laws.ensures (look_up node_eq c.marked.table.nodes) (look_up node_eq c.forget.new.table.nodes) c.marked.slots.items c.clear.new.slots.items c.index-at.result
            (λ n. subst (λ (xs : List Slot). look_up node_eq c.forget.new.table.nodes n ≡ look_without (slot_at xs c.index-at.result) (look_up node_eq c.marked.table.nodes) n) c.as_slice.ensures.value (c.forget.ensures.nodes n))
            c.clear.ensures.slots c.marked.invariant.found.right;
        keys = watched_turn c.key_laws.ensures (look_up key_eq c.marked.table.keys) (look_up key_eq c.forget.new.table.keys) c.marked.slots.items c.clear.new.slots.items c.index-at.result
            (λ k. subst (λ (xs : List Slot). look_up key_eq c.forget.new.table.keys k ≡ key_without (slot_at xs c.index-at.result) (look_up key_eq c.marked.table.keys) k) c.as_slice.ensures.value (c.forget.ensures.keys k))
            c.clear.ensures.slots c.marked.invariant.found.keys;
      };
      count =
          let counted = c.clear.ensures.count in
          let less = cleared_count c.marked.slots.items c.marked.order.items c.marked.graph.nodes c.index-at.result c.marked.invariant.sweeping.placed.nodes_in in
          let was = c.marked.invariant.count in
          let now : held_in c.clear.new.order.items ≡ held_in (cleared (node_place (slot_at c.marked.slots.items c.index-at.result)) c.marked.order.items) = ap held_in c.clear.ensures.order in
          omega (arith, counted, less, was, now);
    }

pub returns-clause-edges : goal.returns-clause-edges
returns-clause-edges c =
    let i = c.marked.invariant.sweeping in
    let none = c.in_default.ensures.none in
    none.1.1 ∙ sym (rest-edges c.args.graph.now.nodes c.marked.graph (rest_of c.args.graph.now c.args.slots.now.items c.args.order.now.items c.args.keys.now.items c.marked.graph c.marked.slots.items c.marked.order.items c.marked.keys.items i none.0) c.take_marked.ensures.relation none.0) ∙ i.edges

pub returns-clause-less : goal.returns-clause-less
returns-clause-less c =
    let count = c.marked.invariant.count in
    let order = ap held_in c.marked.invariant.sweeping.order_is in
    let less = held_less c.marked.graph.nodes c.args.order.now.items in
    let was = c.requires.count in
    omega (arith, count, order, less, was)
