use Rattle.std.proofs.Common.{◌≡◌, ◌∙◌, ℕ, List, Option, Some, true, ap, sym, subst, length, ◌⊎◌}
use Rattle.std.specs.Prelude.{◌↔◌}
use Rattle.std.specs.FinMap as map
use Rattle.std.proofs.lemmas.List.{length-map}
use Rattle.mx_graph.specs.declared.ids.NodeId.{NodeId}
use Rattle.mx_vertices.specs.declared.slot.Slot.{Slot}
use Rattle.mx_invalidation.specs.Marked.{IsGoingFrom, IsGoing}
use Rattle.mx_vertices.specs.Live.{AreLive}
use Rattle.mx_vertices.specs.Kept.{Kept, IsToGo, IsTouched, Sifts, entries}
use Rattle.mx_invalidation.proofs.Keeping.{placed_live}
use Rattle.mx_invalidation.proofs.Spreading.{either}
use Rattle.mx_invalidation.proofs.Starts.{goes_spread, spread_goes, goes_started, goes_here, goes_key}
use Rattle.mx_invalidation.proofs.Dropping.{IsSwept, swept_whole, swept_sifts}
use Rattle.mx_invalidation.proofs.drops.drop_where.Given.{Over}
use Rattle.mx_invalidation.proofs.drops.drop_where.Goals.{After-sweep}
use Rattle.mx_invalidation.proofs.drops.drop_where.Goals as goal

pub mark_where-requires : goal.mark_where-requires
mark_where-requires g c = subst (λ (xs : List (Option NodeId)). AreLive c.args.graph.now.nodes xs) (sym c.as_slice-2.ensures.value) (λ p id e. (c.requires.whole.placed.nodes_in.told p id e).1)

pub sweep-requires-clause-placed : goal.sweep-requires-clause-placed
sweep-requires-clause-placed g c = placed_live c.args.graph.now.nodes c.mark_where.new.graph.nodes c.args.slots.now.items c.args.order.now.items c.args.keys.now.items c.mark_where.ensures.live c.requires.whole.placed

from : (g : Over) (c : After-sweep g) → (q : ℕ) → (map.get c.mark_where.new.graph.nodes q ≡ Some true) ↔ ((map.get c.args.graph.now.nodes q ≡ Some true) ⊎ IsGoingFrom c.args.slots.now.items (g.T.NodeTest.goes c.args.test.now) c.args.order.now.items c.args.graph.now.edges (length c.args.order.now.items) q)
from g c q =
    subst (λ (xs : List (Option NodeId)). (map.get c.mark_where.new.graph.nodes q ≡ Some true) ↔ ((map.get c.args.graph.now.nodes q ≡ Some true) ⊎ IsGoingFrom c.args.slots.now.items (g.T.NodeTest.goes c.args.test.now) xs c.args.graph.now.edges (length xs) q)) c.as_slice-2.ensures.value
    (subst (λ (xs : List Slot). (map.get c.mark_where.new.graph.nodes q ≡ Some true) ↔ ((map.get c.args.graph.now.nodes q ≡ Some true) ⊎ IsGoingFrom xs (g.T.NodeTest.goes c.args.test.now) c.as_slice-2.result.now c.args.graph.now.edges (length c.as_slice-2.result.now) q)) c.as_slice.ensures.value (c.mark_where.ensures.marked q))

swept : (g : Over) (c : After-sweep g) → IsSwept c.args.graph.now c.mark_where.new.graph c.sweep.new.graph c.args.slots.now.items c.sweep.new.slots.items c.args.order.now.items c.sweep.new.order.items (IsGoing c.args.slots.now.items (g.T.NodeTest.goes c.args.test.now))
swept g c = record {
  live = c.mark_where.ensures.live;
  edges_stay = c.mark_where.ensures.edges;
  from = λ q. either (from g c q) (goes_spread c.args.graph.now c.args.slots.now.items c.args.order.now.items c.args.keys.now.items c.requires.whole c.relation.ensures (g.T.NodeTest.goes c.args.test.now) q) (spread_goes c.args.graph.now c.args.slots.now.items c.args.order.now.items c.args.keys.now.items c.requires.whole c.relation.ensures (g.T.NodeTest.goes c.args.test.now) q);
  nodes = c.sweep.ensures.nodes;
  edges = c.sweep.ensures.edges;
  slots_are = c.sweep.ensures.slots;
  order_is = c.sweep.ensures.order;
}

pub drop_unread-requires-clause-whole : goal.drop_unread-requires-clause-whole
drop_unread-requires-clause-whole g c = swept_whole c.args.graph.now c.mark_where.new.graph c.sweep.new.graph c.args.slots.now.items c.sweep.new.slots.items c.args.order.now.items c.sweep.new.order.items c.args.keys.now.items c.sweep.new.keys.items c.requires.whole c.relation.ensures (IsGoing c.args.slots.now.items (g.T.NodeTest.goes c.args.test.now)) (swept g ((goal.at.drop_unread-requires-clause-whole g c).After-sweep)) c.sweep.ensures.placed

pub returns-clause-sifts : goal.returns-clause-sifts
returns-clause-sifts g c =
    subst (λ (left : List Kept). Sifts (IsTouched (IsToGo (g.T.NodeTest.goes c.args.test.now)) (entries c.args.graph.now.edges c.args.slots.now.items 0 c.args.order.now.items)) (entries c.args.graph.now.edges c.args.slots.now.items 0 c.args.order.now.items) left) (sym c.drop_unread.ensures.same)
    (swept_sifts c.args.graph.now c.mark_where.new.graph c.sweep.new.graph c.args.slots.now.items c.sweep.new.slots.items c.args.order.now.items c.sweep.new.order.items c.args.keys.now.items c.sweep.new.keys.items c.requires.whole c.relation.ensures (IsGoing c.args.slots.now.items (g.T.NodeTest.goes c.args.test.now)) (swept g ((goal.at.returns-clause-sifts g c).After-sweep))
    (IsToGo (g.T.NodeTest.goes c.args.test.now))
    (goes_started c.args.graph.now c.args.slots.now.items c.args.order.now.items c.args.keys.now.items c.requires.whole c.relation.ensures (g.T.NodeTest.goes c.args.test.now))
    (goes_here c.args.graph.now c.args.slots.now.items c.args.order.now.items c.args.keys.now.items c.requires.whole c.relation.ensures (g.T.NodeTest.goes c.args.test.now))
    (goes_key c.args.graph.now c.args.slots.now.items c.args.order.now.items c.args.keys.now.items c.requires.whole c.relation.ensures (g.T.NodeTest.goes c.args.test.now)))

pub returns-clause-last : goal.returns-clause-last
returns-clause-last g c = c.drop_unread.ensures.last ∙ ap length c.sweep.ensures.order ∙ length-map c.args.order.now.items _

pub returns-clause-begun : goal.returns-clause-begun
returns-clause-begun g c n = c.drop_unread.ensures.begun n ∙ c.sweep.ensures.begun n
