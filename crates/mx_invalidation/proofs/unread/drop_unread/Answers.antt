use Rattle.std.proofs.Common.{◌≡◌, ◌∙◌, ℕ, List, Option, Some, true, ap, sym, subst, length, ◌⊎◌}
use Rattle.std.specs.Prelude.{◌↔◌}
use Rattle.std.specs.FinMap as map
use Rattle.std.specs.HashMap.{get as look_up}
use Rattle.std.proofs.lemmas.List.{length-map}
use Rattle.mx_graph.specs.declared.ids.NodeId.{NodeId}
use Rattle.mx_value.specs.Equality.{node_eq}
use Rattle.mx_invalidation.specs.Marked.{IsUnreadFrom}
use Rattle.mx_vertices.specs.Live.{AreLive}
use Rattle.mx_vertices.specs.Places.{IsSettled}
use Rattle.mx_vertices.specs.Kept.{IsWhole, entries}
use Rattle.mx_invalidation.proofs.Keeping.{placed_live}
use Rattle.mx_invalidation.proofs.Spreading.{either}
use Rattle.mx_invalidation.proofs.Starts.{IsUnread, unread_spread, spread_unread, unread_here, unread_key}
use Rattle.mx_invalidation.proofs.Dropping.{IsSwept, swept_whole, swept_sifts, left_all}
use Rattle.mx_invalidation.proofs.Settling.{taken}
use Rattle.mx_invalidation.proofs.Settled.{entries_alike, alike_found, keys_once, keys_there, keys_settled, right_alike, watched_alike}
use Rattle.mx_invalidation.proofs.unread.drop_unread.Goals.{After-sweep}
use Rattle.mx_edit.specs.Equality.{key_eq}
use Rattle.mx_invalidation.proofs.unread.drop_unread.Goals as goal

pub mark_unread-requires : goal.mark_unread-requires
mark_unread-requires c = subst (λ (xs : List (Option NodeId)). AreLive c.args.graph.now.nodes xs) (sym c.as_slice.ensures.value) (λ p id e. (c.requires.whole.placed.keys_in.told p id e).1)

pub sweep-requires-clause-placed : goal.sweep-requires-clause-placed
sweep-requires-clause-placed c = placed_live c.args.graph.now.nodes c.mark_unread.new.graph.nodes c.args.slots.now.items c.args.order.now.items c.args.keys.now.items c.mark_unread.ensures.live c.requires.whole.placed

from : (c : After-sweep) → (q : ℕ) → (map.get c.mark_unread.new.graph.nodes q ≡ Some true) ↔ ((map.get c.args.graph.now.nodes q ≡ Some true) ⊎ IsUnreadFrom c.args.keys.now.items c.args.graph.now.edges (length c.args.keys.now.items) q)
from c q = subst (λ (xs : List (Option NodeId)). (map.get c.mark_unread.new.graph.nodes q ≡ Some true) ↔ ((map.get c.args.graph.now.nodes q ≡ Some true) ⊎ IsUnreadFrom xs c.args.graph.now.edges (length xs) q)) c.as_slice.ensures.value (c.mark_unread.ensures.marked q)

abbrev unread : (c : After-sweep) → ℕ → Type 0
unread c = IsUnread c.args.graph.now c.args.slots.now.items c.args.order.now.items c.args.keys.now.items c.requires.whole c.relation.ensures

swept : (c : After-sweep) → IsSwept c.args.graph.now c.mark_unread.new.graph c.sweep.new.graph c.args.slots.now.items c.sweep.new.slots.items c.args.order.now.items c.sweep.new.order.items (unread c)
swept c = record {
  live = c.mark_unread.ensures.live;
  edges_stay = c.mark_unread.ensures.edges;
  from = λ q. either (from c q) (unread_spread c.args.graph.now c.args.slots.now.items c.args.order.now.items c.args.keys.now.items c.requires.whole c.relation.ensures q) (spread_unread c.args.graph.now c.args.slots.now.items c.args.order.now.items c.args.keys.now.items c.requires.whole c.relation.ensures q);
  nodes = c.sweep.ensures.nodes;
  edges = c.sweep.ensures.edges;
  slots_are = c.sweep.ensures.slots;
  order_is = c.sweep.ensures.order;
}

swept_is : (c : After-sweep) → IsWhole c.sweep.new.graph c.sweep.new.slots.items c.sweep.new.order.items c.sweep.new.keys.items
swept_is c = swept_whole c.args.graph.now c.mark_unread.new.graph c.sweep.new.graph c.args.slots.now.items c.sweep.new.slots.items c.args.order.now.items c.sweep.new.order.items c.args.keys.now.items c.sweep.new.keys.items c.requires.whole c.relation.ensures (unread c) (swept c) c.sweep.ensures.placed

stays : (c : After-sweep) → entries c.sweep.new.graph.edges c.sweep.new.slots.items 0 c.sweep.new.order.items ≡ entries c.args.graph.now.edges c.args.slots.now.items 0 c.args.order.now.items
stays c =
    left_all (entries c.args.graph.now.edges c.args.slots.now.items 0 c.args.order.now.items) (entries c.sweep.new.graph.edges c.sweep.new.slots.items 0 c.sweep.new.order.items)
    (swept_sifts c.args.graph.now c.mark_unread.new.graph c.sweep.new.graph c.args.slots.now.items c.sweep.new.slots.items c.args.order.now.items c.sweep.new.order.items c.args.keys.now.items c.sweep.new.keys.items c.requires.whole c.relation.ensures (unread c) (swept c)
    (λ r. ⊥) (λ r h c. absurd c)
    (unread_here c.args.graph.now c.args.slots.now.items c.args.order.now.items c.args.keys.now.items c.requires.whole c.relation.ensures)
    (unread_key c.args.graph.now c.args.slots.now.items c.args.order.now.items c.args.keys.now.items c.requires.whole c.relation.ensures))

pub settle-requires-clause-there : goal.settle-requires-clause-there
settle-requires-clause-there c = keys_there c.sweep.new.graph c.sweep.new.slots.items c.sweep.new.slots.items c.sweep.new.order.items c.sweep.new.keys.items (swept_is (goal.at.settle-requires-clause-there c).After-sweep)

pub settle-requires-clause-once : goal.settle-requires-clause-once
settle-requires-clause-once c = keys_once c.sweep.new.graph c.sweep.new.slots.items c.sweep.new.slots.items c.sweep.new.order.items c.sweep.new.keys.items (swept_is (goal.at.settle-requires-clause-once c).After-sweep)

pub returns-clause-found : goal.returns-clause-found
returns-clause-found c = record {
  nodes = alike_found c.sweep.new.slots.items c.settle.new.slots.items c.settle.ensures.settled.alike (look_up node_eq c.sweep.new.table.nodes) c.sweep.new.order.items c.sweep.ensures.found.nodes;
  right = right_alike c.sweep.new.slots.items c.settle.new.slots.items c.settle.ensures.settled.alike (look_up node_eq c.sweep.new.table.nodes) c.sweep.ensures.found.right;
  keys = watched_alike c.sweep.new.slots.items c.settle.new.slots.items c.settle.ensures.settled.alike (look_up key_eq c.sweep.new.table.keys) c.sweep.ensures.found.keys;
}

pub returns-clause-last : goal.returns-clause-last
returns-clause-last c = ap length c.sweep.ensures.order ∙ length-map c.args.order.now.items _

pub returns-clause-whole : goal.returns-clause-whole
returns-clause-whole c =
    let list : c.settle.new.list.items ≡ taken c.sweep.new.keys.items = c.settle.ensures.list in
    subst (λ (xs : List (Option NodeId)). IsWhole c.sweep.new.graph c.settle.new.slots.items c.sweep.new.order.items xs) (sym list)
    (keys_settled c.sweep.new.graph c.sweep.new.slots.items c.settle.new.slots.items c.sweep.new.order.items c.sweep.new.keys.items (swept_is (goal.at.returns-clause-whole c).After-sweep)
    (subst (λ (xs : List (Option NodeId)). IsSettled c.sweep.new.slots.items c.settle.new.slots.items xs) list c.settle.ensures.settled))

pub returns-clause-same : goal.returns-clause-same
returns-clause-same c = entries_alike c.sweep.new.slots.items c.settle.new.slots.items c.settle.ensures.settled.alike c.sweep.new.graph.edges 0 c.sweep.new.order.items ∙ stays (goal.at.returns-clause-same c).After-sweep
