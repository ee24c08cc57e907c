use Rattle.std.proofs.Common.{◌≡◌, ◌∙◌, ℕ, ap, length, List, sym, subst}
use Rattle.std.proofs.lemmas.List.{length-map}
use Rattle.mx_vertices.specs.Kept.{Kept, IsTouched, Sifts, entries}
use Rattle.mx_invalidation.proofs.Keeping.{placed_live}
use Rattle.mx_vertices.proofs.Reading.{held_live, node_not_free}
use Rattle.mx_invalidation.proofs.Spreading.{either}
use Rattle.mx_invalidation.proofs.Starts.{one_spread, spread_one, one_started, one_here, one_key}
use Rattle.mx_invalidation.proofs.Dropping.{IsSwept, swept_whole, swept_sifts}
use Rattle.mx_vertices.specs.Places.{slot_at}
use Rattle.mx_invalidation.proofs.drops.drop_one.Goals.{After-sweep}
use Rattle.mx_invalidation.proofs.drops.drop_one.Goals as goal

pub mark_readers-requires : goal.mark_readers-requires
mark_readers-requires c = held_live c.args.graph.now.nodes c.args.slots.now.items c.args.order.now.items c.args.keys.now.items c.requires.whole.placed c.args.from.at (node_not_free (slot_at c.args.slots.now.items c.args.from.at) c.requires.node)

pub sweep-requires-clause-placed : goal.sweep-requires-clause-placed
sweep-requires-clause-placed c = placed_live c.args.graph.now.nodes c.mark_readers.new.self.nodes c.args.slots.now.items c.args.order.now.items c.args.keys.now.items c.mark_readers.ensures.live c.requires.whole.placed

abbrev start : (c : After-sweep) → ℕ → Type 0
start c s = s ≡ c.args.from.at

swept : (c : After-sweep) → IsSwept c.args.graph.now c.mark_readers.new.self c.sweep.new.graph c.args.slots.now.items c.sweep.new.slots.items c.args.order.now.items c.sweep.new.order.items (start c)
swept c = record {
  live = c.mark_readers.ensures.live;
  edges_stay = c.mark_readers.ensures.edges;
  from = λ q. either (c.mark_readers.ensures.marked q) (one_spread c.args.graph.now c.args.slots.now.items c.args.order.now.items c.args.keys.now.items c.requires.whole c.relation.ensures c.args.from q) (spread_one c.args.graph.now c.args.slots.now.items c.args.order.now.items c.args.keys.now.items c.requires.whole c.relation.ensures c.args.from q);
  nodes = c.sweep.ensures.nodes;
  edges = c.sweep.ensures.edges;
  slots_are = c.sweep.ensures.slots;
  order_is = c.sweep.ensures.order;
}

pub drop_unread-requires-clause-whole : goal.drop_unread-requires-clause-whole
drop_unread-requires-clause-whole c = swept_whole c.args.graph.now c.mark_readers.new.self c.sweep.new.graph c.args.slots.now.items c.sweep.new.slots.items c.args.order.now.items c.sweep.new.order.items c.args.keys.now.items c.sweep.new.keys.items c.requires.whole c.relation.ensures (start ((goal.at.drop_unread-requires-clause-whole c).After-sweep)) (swept ((goal.at.drop_unread-requires-clause-whole c).After-sweep)) c.sweep.ensures.placed

pub returns-clause-sifts : goal.returns-clause-sifts
returns-clause-sifts c =
    subst (λ (left : List Kept). Sifts (IsTouched (λ r. r.id ≡ c.args.from.at) (entries c.args.graph.now.edges c.args.slots.now.items 0 c.args.order.now.items)) (entries c.args.graph.now.edges c.args.slots.now.items 0 c.args.order.now.items) left) (sym c.drop_unread.ensures.same)
    (swept_sifts c.args.graph.now c.mark_readers.new.self c.sweep.new.graph c.args.slots.now.items c.sweep.new.slots.items c.args.order.now.items c.sweep.new.order.items c.args.keys.now.items c.sweep.new.keys.items c.requires.whole c.relation.ensures (start ((goal.at.returns-clause-sifts c).After-sweep)) (swept ((goal.at.returns-clause-sifts c).After-sweep))
    (λ r. r.id ≡ c.args.from.at)
    (one_started c.args.graph.now c.args.slots.now.items c.args.order.now.items c.args.keys.now.items c.requires.whole c.relation.ensures c.args.from)
    (one_here c.args.graph.now c.args.slots.now.items c.args.order.now.items c.args.keys.now.items c.requires.whole c.relation.ensures c.args.from)
    (one_key c.args.graph.now c.args.slots.now.items c.args.order.now.items c.args.keys.now.items c.requires.whole c.relation.ensures c.args.from c.requires.node))

pub returns-clause-last : goal.returns-clause-last
returns-clause-last c = c.drop_unread.ensures.last ∙ ap length c.sweep.ensures.order ∙ length-map c.args.order.now.items _

pub returns-clause-begun : goal.returns-clause-begun
returns-clause-begun c n = c.drop_unread.ensures.begun n ∙ c.sweep.ensures.begun n
