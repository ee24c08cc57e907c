use Rattle.std.proofs.Common.{◌≡◌, ◌∙◌, ℕ, List, Option, Some, true, ap, subst, length, ◌⊎◌, sym}
use Rattle.std.specs.Prelude.{◌↔◌, IsSome}
use Rattle.std.specs.FinMap as map
use Rattle.std.proofs.lemmas.List.{length-map}
use Rattle.mx_graph.specs.declared.ids.NodeId.{NodeId}
use Rattle.mx_vertices.specs.declared.slot.Slot.{Slot}
use Rattle.mx_graph.specs.Relation.{Entry}
use Rattle.std.specs.HashMap.{get as look_up}
use Rattle.mx_value.specs.Equality.{node_eq}
use Rattle.mx_vertices.specs.Found.{LeadsTo}
use Rattle.mx_invalidation.specs.Marked.{IsMarkedFrom, IsInputFrom, IsChangedStart, AreNodesLive}
use Rattle.mx_vertices.specs.Kept.{Kept, HasChanged, IsTouched, Sifts, entries}
use Rattle.mx_invalidation.proofs.Keeping.{placed_live}
use Rattle.mx_invalidation.proofs.Spreading.{Spreads}
use Rattle.mx_vertices.proofs.Statics.{leads}
use Rattle.mx_invalidation.proofs.MarkedInputs.{nodes_live, both_marked}
use Rattle.mx_invalidation.proofs.Starts.{changes_spread, spread_changes, changed_started, changed_here, changed_key}
use Rattle.mx_invalidation.proofs.Dropping.{IsSwept, swept_whole, swept_sifts}
use Rattle.mx_invalidation.proofs.drops.drop_changed.Given.{Over}
use Rattle.mx_invalidation.proofs.drops.drop_changed.Goals.{After-mark_inputs, After-sweep}
use Rattle.mx_invalidation.proofs.drops.drop_changed.Goals as goal

inputs_live : (g : Over) (c : After-mark_inputs g) → (q : ℕ) → IsSome (map.get c.mark_inputs.new.graph.nodes q) ↔ IsSome (map.get c.args.graph.now.nodes q)
inputs_live g c q = let a = c.mark_changed.ensures.live q in let b = c.mark_inputs.ensures.live q in (λ l. a.0 (b.0 l), λ l. b.1 (a.1 l))

pub mark_inputs-requires-clause-nodes : goal.mark_inputs-requires-clause-nodes
mark_inputs-requires-clause-nodes g c =
    subst (λ (xs : List Slot). AreNodesLive c.mark_changed.new.graph.nodes xs) (sym c.as_slice-3.ensures.value)
    (nodes_live c.args.graph.now.nodes c.mark_changed.new.graph.nodes c.args.slots.now.items c.args.order.now.items c.requires.whole.placed.nodes_in c.mark_changed.ensures.live)

pub mark_inputs-requires-clause-found : goal.mark_inputs-requires-clause-found
mark_inputs-requires-clause-found g c =
    subst (λ (xs : List Slot). LeadsTo (look_up node_eq c.args.table.now.nodes) xs) (sym c.as_slice-3.ensures.value)
    (leads (look_up node_eq c.args.table.now.nodes) c.args.graph.now.nodes c.args.slots.now.items c.args.order.now.items c.requires.whole.placed.nodes_in c.requires.found.nodes)

pub sweep-requires-clause-placed : goal.sweep-requires-clause-placed
sweep-requires-clause-placed g c = placed_live c.args.graph.now.nodes c.mark_inputs.new.graph.nodes c.args.slots.now.items c.args.order.now.items c.args.keys.now.items (inputs_live g ((goal.at.sweep-requires-clause-placed g c).After-mark_inputs)) c.requires.whole.placed

keys_from : (g : Over) (c : After-sweep g) → (q : ℕ) → (map.get c.mark_changed.new.graph.nodes q ≡ Some true) ↔ ((map.get c.args.graph.now.nodes q ≡ Some true) ⊎ IsMarkedFrom c.args.slots.now.items (g.T.KeyTest.changed c.args.test.now) c.args.keys.now.items c.args.graph.now.edges (length c.args.keys.now.items) q)
keys_from g c q =
    subst (λ (xs : List (Option NodeId)). (map.get c.mark_changed.new.graph.nodes q ≡ Some true) ↔ ((map.get c.args.graph.now.nodes q ≡ Some true) ⊎ IsMarkedFrom c.args.slots.now.items (g.T.KeyTest.changed c.args.test.now) xs c.args.graph.now.edges (length xs) q)) c.as_slice-2.ensures.value
    (subst (λ (xs : List Slot). (map.get c.mark_changed.new.graph.nodes q ≡ Some true) ↔ ((map.get c.args.graph.now.nodes q ≡ Some true) ⊎ IsMarkedFrom xs (g.T.KeyTest.changed c.args.test.now) c.as_slice-2.result.now c.args.graph.now.edges (length c.as_slice-2.result.now) q)) c.as_slice.ensures.value (c.mark_changed.ensures.marked q))

inputs_from : (g : Over) (c : After-sweep g) → (q : ℕ) → (map.get c.mark_inputs.new.graph.nodes q ≡ Some true) ↔ ((map.get c.mark_changed.new.graph.nodes q ≡ Some true) ⊎ IsInputFrom c.args.slots.now.items c.args.graph.now.edges c.changed_inputs.result.now q)
inputs_from g c q =
    subst (λ (es : List Entry). (map.get c.mark_inputs.new.graph.nodes q ≡ Some true) ↔ ((map.get c.mark_changed.new.graph.nodes q ≡ Some true) ⊎ IsInputFrom c.args.slots.now.items es c.changed_inputs.result.now q)) c.mark_changed.ensures.edges
    (subst (λ (xs : List Slot). (map.get c.mark_inputs.new.graph.nodes q ≡ Some true) ↔ ((map.get c.mark_changed.new.graph.nodes q ≡ Some true) ⊎ IsInputFrom xs c.mark_changed.new.graph.edges c.changed_inputs.result.now q)) c.as_slice-3.ensures.value (c.mark_inputs.ensures.marked q))

start_from : (g : Over) (c : After-sweep g) → (q : ℕ) → (map.get c.mark_inputs.new.graph.nodes q ≡ Some true) ↔ ((map.get c.args.graph.now.nodes q ≡ Some true) ⊎ Spreads c.args.graph.now.edges (IsChangedStart c.args.slots.now.items (g.T.KeyTest.changed c.args.test.now)) q)
start_from g c q =
    both_marked (inputs_from g c q) (keys_from g c q) (
      spread_changes c.args.graph.now c.args.slots.now.items c.args.order.now.items c.args.keys.now.items c.requires.whole c.relation.ensures (g.T.KeyTest.changed c.args.test.now) c.changed_inputs.result.now c.changed_inputs.ensures q,
      changes_spread c.args.graph.now c.args.slots.now.items c.args.order.now.items c.args.keys.now.items c.requires.whole c.relation.ensures (g.T.KeyTest.changed c.args.test.now) c.changed_inputs.result.now c.changed_inputs.ensures q,
    )

swept : (g : Over) (c : After-sweep g) → IsSwept c.args.graph.now c.mark_inputs.new.graph c.sweep.new.graph c.args.slots.now.items c.sweep.new.slots.items c.args.order.now.items c.sweep.new.order.items (IsChangedStart c.args.slots.now.items (g.T.KeyTest.changed c.args.test.now))
swept g c = record {
  live = λ q. let a = c.mark_changed.ensures.live q in let b = c.mark_inputs.ensures.live q in (λ l. a.0 (b.0 l), λ l. b.1 (a.1 l));
  edges_stay = c.mark_inputs.ensures.edges ∙ c.mark_changed.ensures.edges;
  from = start_from g c;
  nodes = c.sweep.ensures.nodes;
  edges = c.sweep.ensures.edges;
  slots_are = c.sweep.ensures.slots;
  order_is = c.sweep.ensures.order;
}

pub drop_unread-requires-clause-whole : goal.drop_unread-requires-clause-whole
drop_unread-requires-clause-whole g c = swept_whole c.args.graph.now c.mark_inputs.new.graph c.sweep.new.graph c.args.slots.now.items c.sweep.new.slots.items c.args.order.now.items c.sweep.new.order.items c.args.keys.now.items c.sweep.new.keys.items c.requires.whole c.relation.ensures (IsChangedStart c.args.slots.now.items (g.T.KeyTest.changed c.args.test.now)) (swept g ((goal.at.drop_unread-requires-clause-whole g c).After-sweep)) c.sweep.ensures.placed

pub returns-clause-sifts : goal.returns-clause-sifts
returns-clause-sifts g c =
    subst (λ (left : List Kept). Sifts (IsTouched (HasChanged (g.T.KeyTest.changed c.args.test.now)) (entries c.args.graph.now.edges c.args.slots.now.items 0 c.args.order.now.items)) (entries c.args.graph.now.edges c.args.slots.now.items 0 c.args.order.now.items) left) (sym c.drop_unread.ensures.same)
    (swept_sifts c.args.graph.now c.mark_inputs.new.graph c.sweep.new.graph c.args.slots.now.items c.sweep.new.slots.items c.args.order.now.items c.sweep.new.order.items c.args.keys.now.items c.sweep.new.keys.items c.requires.whole c.relation.ensures (IsChangedStart c.args.slots.now.items (g.T.KeyTest.changed c.args.test.now)) (swept g ((goal.at.returns-clause-sifts g c).After-sweep))
    (HasChanged (g.T.KeyTest.changed c.args.test.now))
    (changed_started c.args.graph.now c.args.slots.now.items c.args.order.now.items c.args.keys.now.items c.requires.whole c.relation.ensures (g.T.KeyTest.changed c.args.test.now))
    (changed_here c.args.graph.now c.args.slots.now.items c.args.order.now.items c.args.keys.now.items c.requires.whole c.relation.ensures (g.T.KeyTest.changed c.args.test.now))
    (changed_key c.args.graph.now c.args.slots.now.items c.args.order.now.items c.args.keys.now.items c.requires.whole c.relation.ensures (g.T.KeyTest.changed c.args.test.now)))

pub returns-clause-last : goal.returns-clause-last
returns-clause-last g c = c.drop_unread.ensures.last ∙ ap length c.sweep.ensures.order ∙ length-map c.args.order.now.items _

pub returns-clause-begun : goal.returns-clause-begun
returns-clause-begun g c n = c.drop_unread.ensures.begun n ∙ c.sweep.ensures.begun n
