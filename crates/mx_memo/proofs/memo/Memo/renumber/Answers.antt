use Rattle.std.proofs.Common.{◌≡◌, ◌∙◌, List, Option, length, ap, sym, subst}
use Rattle.std.specs.HashMap.{get as look_up}
use Rattle.mx_graph.specs.declared.ids.NodeId.{NodeId}
use Rattle.mx_value.specs.Equality.{node_eq}
use Rattle.mx_vertices.specs.Places.{IsSettled, held_in}
use Rattle.mx_vertices.specs.Kept.{entries, IsWhole}
use Rattle.mx_invalidation.specs.Stamps.{renumbered}
use Rattle.mx_vertices.specs.Found.{IsFound}
use Rattle.mx_memo.specs.Memos.{Memory}
use Rattle.mx_invalidation.proofs.Keeping.{entries_length}
use Rattle.mx_invalidation.proofs.Settling.{taken}
use Rattle.mx_invalidation.proofs.Settled.{entries_alike, entries_taken, alike_found, count_taken, length_taken, order_once, order_there, order_settled, found_taken, right_alike, watched_alike}
use Rattle.mx_edit.specs.Equality.{key_eq}
use Rattle.mx_memo.proofs.memo.Memo.renumber.Goals as goal

pub settle-requires-clause-there : goal.settle-requires-clause-there
settle-requires-clause-there c = order_there c.self.inside.graph c.self.inside.slots.items c.self.inside.slots.items c.self.inside.order.items c.self.inside.keys.items c.self.invariant.whole

pub settle-requires-clause-once : goal.settle-requires-clause-once
settle-requires-clause-once c = order_once c.self.inside.graph c.self.inside.slots.items c.self.inside.slots.items c.self.inside.order.items c.self.inside.keys.items c.self.invariant.whole

pub invariant_of-self : goal.invariant_of-self
invariant_of-self c =
    let list : c.settle.new.list.items ≡ taken c.self.inside.order.items = c.settle.ensures.list in
    let settled : IsSettled c.self.inside.slots.items c.settle.new.slots.items (taken c.self.inside.order.items) = subst (λ (xs : List (Option NodeId)). IsSettled c.self.inside.slots.items c.settle.new.slots.items xs) list c.settle.ensures.settled in
    record {
      whole = subst (λ (xs : List (Option NodeId)). IsWhole c.self.inside.graph c.settle.new.slots.items xs c.self.inside.keys.items) (sym list) (order_settled c.self.inside.graph c.self.inside.slots.items c.settle.new.slots.items c.self.inside.order.items c.self.inside.keys.items c.self.invariant.whole settled);
      found = record {
        nodes = subst (λ (xs : List (Option NodeId)). IsFound (look_up node_eq c.self.inside.table.nodes) c.settle.new.slots.items xs) (sym list)
            (alike_found c.self.inside.slots.items c.settle.new.slots.items settled.alike (look_up node_eq c.self.inside.table.nodes) (taken c.self.inside.order.items) (found_taken (look_up node_eq c.self.inside.table.nodes) c.self.inside.slots.items c.self.inside.order.items c.self.invariant.found.nodes));
        right = right_alike c.self.inside.slots.items c.settle.new.slots.items settled.alike (look_up node_eq c.self.inside.table.nodes) c.self.invariant.found.right;
        keys = watched_alike c.self.inside.slots.items c.settle.new.slots.items settled.alike (look_up key_eq c.self.inside.table.keys) c.self.invariant.found.keys;
      };
      begun = c.self.invariant.begun;
      begun_once = c.self.invariant.begun_once;
      counted = c.self.invariant.counted ∙ sym (count_taken c.self.inside.order.items) ∙ ap held_in (sym list);
      few = c.self.invariant.few;
    }

pub returns-clause-held : goal.returns-clause-held
returns-clause-held c =
    let list : c.settle.new.list.items ≡ taken c.self.inside.order.items = c.settle.ensures.list in
    ap (λ (xs : List (Option NodeId)). entries c.self.inside.graph.edges c.settle.new.slots.items 0 xs) list
    ∙ entries_alike c.self.inside.slots.items c.settle.new.slots.items c.settle.ensures.settled.alike c.self.inside.graph.edges 0 (taken c.self.inside.order.items)
    ∙ entries_taken c.self.inside.graph.edges c.self.inside.slots.items 0 0 c.self.inside.order.items
    ∙ ap (λ (m : Memory). renumbered 0 m.held) c.self.view_is

pub returns-clause-last : goal.returns-clause-last
returns-clause-last c =
    ap length c.settle.ensures.list
    ∙ length_taken c.self.inside.order.items
    ∙ sym (entries_length c.self.inside.graph.edges c.self.inside.slots.items 0 c.self.inside.order.items)
    ∙ ap (λ (m : Memory). length m.held) c.self.view_is
