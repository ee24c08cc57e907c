use Rattle.std.proofs.Common.{◌≡◌, ◌∙◌, ◌<◌, ℕ, List, Option, Some, true, ap, sym, subst, length, ◌⊎◌}
use Rattle.std.specs.Prelude.{◌↔◌}
use Rattle.std.specs.FinMap as map
use Rattle.std.proofs.lemmas.List.{length-map}
use Rattle.mx_graph.specs.declared.ids.NodeId.{NodeId}
use Rattle.mx_invalidation.specs.Marked.{IsReaching}
use Rattle.mx_vertices.specs.Live.{AreLive}
use Rattle.mx_vertices.specs.Kept.{Kept, IsTouched, Sifts, entries}
use Rattle.mx_invalidation.proofs.Keeping.{placed_live}
use Rattle.mx_invalidation.proofs.Spreading.{either}
use Rattle.mx_invalidation.proofs.Starts.{IsLate, late_spread, spread_late, late_started, late_here, late_key}
use Rattle.mx_invalidation.proofs.Dropping.{IsSwept, swept_whole, swept_sifts}
use Rattle.mx_invalidation.proofs.drops.drop_after.Goals.{After-sweep}
use Rattle.mx_invalidation.proofs.drops.drop_after.Goals as goal

pub mark_after-requires : goal.mark_after-requires
mark_after-requires c = subst (λ (xs : List (Option NodeId)). AreLive c.args.graph.now.nodes xs) (sym c.as_slice.ensures.value) (λ p id e. (c.requires.whole.placed.nodes_in.told p id e).1)

pub sweep-requires-clause-placed : goal.sweep-requires-clause-placed
sweep-requires-clause-placed c = placed_live c.args.graph.now.nodes c.mark_after.new.graph.nodes c.args.slots.now.items c.args.order.now.items c.args.keys.now.items c.mark_after.ensures.live c.requires.whole.placed

from : (c : After-sweep) → (q : ℕ) → (map.get c.mark_after.new.graph.nodes q ≡ Some true) ↔ ((map.get c.args.graph.now.nodes q ≡ Some true) ⊎ IsReaching c.args.order.now.items c.args.graph.now.edges c.args.stamp (length c.args.order.now.items) q)
from c q = subst (λ (xs : List (Option NodeId)). (map.get c.mark_after.new.graph.nodes q ≡ Some true) ↔ ((map.get c.args.graph.now.nodes q ≡ Some true) ⊎ IsReaching xs c.args.graph.now.edges c.args.stamp (length xs) q)) c.as_slice.ensures.value (c.mark_after.ensures.marked q)

abbrev late : (c : After-sweep) → ℕ → Type 0
late c = IsLate c.args.graph.now c.args.slots.now.items c.args.order.now.items c.args.keys.now.items c.requires.whole c.relation.ensures c.args.stamp

swept : (c : After-sweep) → IsSwept c.args.graph.now c.mark_after.new.graph c.sweep.new.graph c.args.slots.now.items c.sweep.new.slots.items c.args.order.now.items c.sweep.new.order.items (late c)
swept c = record {
  live = c.mark_after.ensures.live;
  edges_stay = c.mark_after.ensures.edges;
  from = λ q. either (from c q) (late_spread c.args.graph.now c.args.slots.now.items c.args.order.now.items c.args.keys.now.items c.requires.whole c.relation.ensures c.args.stamp q) (spread_late c.args.graph.now c.args.slots.now.items c.args.order.now.items c.args.keys.now.items c.requires.whole c.relation.ensures c.args.stamp q);
  nodes = c.sweep.ensures.nodes;
  edges = c.sweep.ensures.edges;
  slots_are = c.sweep.ensures.slots;
  order_is = c.sweep.ensures.order;
}

pub drop_unread-requires-clause-whole : goal.drop_unread-requires-clause-whole
drop_unread-requires-clause-whole c = swept_whole c.args.graph.now c.mark_after.new.graph c.sweep.new.graph c.args.slots.now.items c.sweep.new.slots.items c.args.order.now.items c.sweep.new.order.items c.args.keys.now.items c.sweep.new.keys.items c.requires.whole c.relation.ensures (late ((goal.at.drop_unread-requires-clause-whole c).After-sweep)) (swept ((goal.at.drop_unread-requires-clause-whole c).After-sweep)) c.sweep.ensures.placed

pub returns-clause-sifts : goal.returns-clause-sifts
returns-clause-sifts c =
    subst (λ (left : List Kept). Sifts (IsTouched (λ r. c.args.stamp < r.stamp) (entries c.args.graph.now.edges c.args.slots.now.items 0 c.args.order.now.items)) (entries c.args.graph.now.edges c.args.slots.now.items 0 c.args.order.now.items) left) (sym c.drop_unread.ensures.same)
    (swept_sifts c.args.graph.now c.mark_after.new.graph c.sweep.new.graph c.args.slots.now.items c.sweep.new.slots.items c.args.order.now.items c.sweep.new.order.items c.args.keys.now.items c.sweep.new.keys.items c.requires.whole c.relation.ensures (late ((goal.at.returns-clause-sifts c).After-sweep)) (swept ((goal.at.returns-clause-sifts c).After-sweep))
    (λ r. c.args.stamp < r.stamp)
    (late_started c.args.graph.now c.args.slots.now.items c.args.order.now.items c.args.keys.now.items c.requires.whole c.relation.ensures c.args.stamp)
    (late_here c.args.graph.now c.args.slots.now.items c.args.order.now.items c.args.keys.now.items c.requires.whole c.relation.ensures c.args.stamp)
    (late_key c.args.graph.now c.args.slots.now.items c.args.order.now.items c.args.keys.now.items c.requires.whole c.relation.ensures c.args.stamp))

pub returns-clause-last : goal.returns-clause-last
returns-clause-last c = c.drop_unread.ensures.last ∙ ap length c.sweep.ensures.order ∙ length-map c.args.order.now.items _

pub returns-clause-begun : goal.returns-clause-begun
returns-clause-begun c n = c.drop_unread.ensures.begun n ∙ c.sweep.ensures.begun n
