use Rattle.std.proofs.Common.{◌≡◌, ◌∙◌, ◌++◌, ◌∷◌, [], List, Option, Some, cond, length, ap, refl, sym, subst, arith}
use Rattle.std.specs.HashMap.{get as look_up}
use Rattle.mx_value.specs.declared.node.Node.{Node as Asked}
use Rattle.mx_value.specs.Equality.{node_eq}
use Rattle.mx_vertices.specs.declared.slot.Held.{Held}
use Rattle.mx_vertices.specs.declared.standing.Standing.TheVariants.{Ended}
use Rattle.mx_vertices.specs.Found.{IsFound, AreBegun, AreDistinct, AreWatched, IsNew}
use Rattle.mx_vertices.proofs.Begun.{held_from_last}
use Rattle.mx_vertices.proofs.Table.{found_same, found_last}
use Rattle.mx_vertices.proofs.Right.{right_same, right_last}
use Rattle.mx_graph.specs.declared.ids.NodeId.{NodeId}
use Rattle.mx_vertices.specs.Places.{held_in}
use Rattle.mx_vertices.specs.Kept.{IsHeld, IsWhole}
use Rattle.mx_memo.specs.Memos.{IsLast, Memory}
use Rattle.mx_memo.proofs.Last.{no_more, same_front}
use Rattle.mx_invalidation.proofs.Keeping.{entries_length}
use Rattle.mx_vertices.proofs.Reading.{held_node}
use Rattle.mx_vertices.proofs.Sources.{push_length}
use Rattle.mx_edit.specs.Equality.{key_eq}
use Rattle.mx_vertices.proofs.Watching.{watched_kept}
use Rattle.mx_memo.proofs.memo.Memo.hold.Goals.{After-hold_with-held, In-Some}
use Rattle.mx_memo.proofs.memo.Memo.hold.Goals as goal

-- the keys are found where a node is held
held_keys : (c : After-hold_with-held) → AreWatched (look_up key_eq c.vertices_of-found.new.table) c.hold_with-held.new.slots.items
held_keys c =
    let was : IsWhole c.vertices_of-found.new.graph c.vertices_of-found.new.slots.items c.self.inside.order.items c.vertices_of-found.new.keys.items
    = subst (λ (xs : List (Option NodeId)). IsWhole c.vertices_of-found.new.graph c.vertices_of-found.new.slots.items xs c.vertices_of-found.new.keys.items) c.deref.ensures.value c.vertices_of-found.ensures.whole in
    let now : IsWhole c.hold_with-held.new.graph c.hold_with-held.new.slots.items c.hold_with-held.new.order.items c.vertices_of-found.new.keys.items
    = subst (λ (xs : List (Option NodeId)). IsWhole c.hold_with-held.new.graph c.hold_with-held.new.slots.items c.hold_with-held.new.order.items xs) c.deref-2.ensures.value c.hold_with-held.ensures.whole in
    watched_kept (look_up key_eq c.vertices_of-found.new.table) c.vertices_of-found.new.graph.nodes c.hold_with-held.new.graph.nodes c.vertices_of-found.new.slots.items c.hold_with-held.new.slots.items c.vertices_of-found.new.keys.items was.placed.keys_in now.placed.keys_in c.hold_with-held.ensures.stays c.vertices_of-found.ensures.watched

pub vertices_of-found-requires-clause-asks : goal.vertices_of-found-requires-clause-asks
vertices_of-found-requires-clause-asks c id i =
    held_node c.self.inside.graph c.self.inside.slots.items c.self.inside.order.items c.self.inside.keys.items c.self.invariant.whole id.at (subst (λ (m : Memory). IsHeld m.held id.at) (sym c.self.view_is) (c.requires.asks id i))

pub returns-then-self-ge-MOST-clause-full : goal.returns-then-self-ge-MOST-clause-full
returns-then-self-ge-MOST-clause-full c =
    let counted = c.self.invariant.counted in
    let seen = entries_length c.self.inside.graph.edges c.self.inside.slots.items 0 c.self.inside.order.items in
    let view = ap (λ (m : Memory). length m.held) c.self.view_is in
    let many = c.if-self-ge-MOST.true in
    (λ _. omega (arith, counted, seen, view, many), λ _. refl)

pub returns-in_default-held-clause-full : goal.returns-in_default-held-clause-full
returns-in_default-held-clause-full c =
    let counted = c.self.invariant.counted in
    let seen = entries_length c.self.inside.graph.edges c.self.inside.slots.items 0 c.self.inside.order.items in
    let view = ap (λ (m : Memory). length m.held) c.self.view_is in
    let few = c.if-self-ge-MOST.false in
    (λ e. cc, λ many. absurd (omega (arith, counted, seen, view, few, many)))

pub returns-clause-full : goal.returns-clause-full
returns-clause-full c =
    let counted = c.self.invariant.counted in
    let seen = entries_length c.self.inside.graph.edges c.self.inside.slots.items 0 c.self.inside.order.items in
    let view = ap (λ (m : Memory). length m.held) c.self.view_is in
    let few = c.if-self-ge-MOST.false in
    (λ e. cc, λ many. absurd (omega (arith, counted, seen, view, few, many)))

-- the node that was the last of those that have begun
is_last : (c : In-Some) → c.in-Some._ended ≡ c.args.body.node
is_last c =
    let last : IsLast c.self.inside.begun.items c.args.body.node = subst (λ (m : Memory). IsLast m.begun c.args.body.node) (sym c.self.view_is) c.requires.last in
    (same_front c.end_as.new.begun.items last.before c.in-Some._ended c.args.body.node (sym c.in-Some.ensures.begun ∙ last.is)).1

pub returns-clause-ended : goal.returns-clause-ended
returns-clause-ended c =
    sym (ap (λ (m : Memory). m.begun) c.self.view_is) ∙ c.in-Some.ensures.begun ∙ ap (λ (k : Asked). c.end_as.new.begun.items ++ k ∷ []) (is_last ((goal.at.returns-clause-ended c).In-Some))

pub unreachable-requires : goal.unreachable-requires
unreachable-requires c =
    no_more c.requires.last.before c.args.body.node (sym c.requires.last.is ∙ sym (ap (λ (m : Memory). m.begun) c.self.view_is) ∙ c.in_default-end_as.ensures.none)

pub invariant_of-self-2 : goal.invariant_of-self-2
invariant_of-self-2 c =
    let is : c.in-Some._ended ≡ c.args.body.node = is_last ((goal.at.invariant_of-self-2 c).In-Some) in
    let puts : (n : Asked) → look_up node_eq c.end_as.new.table n ≡ cond (node_eq c.args.body.node n) (Some (Ended c.in-Ok-held.id)) (look_up node_eq c.self.inside.table.nodes n)
    = λ n. c.in-Some.ensures.table n ∙ ap (λ (k : Asked). cond (node_eq k n) (Some (Ended c.in-Ok-held.id)) (look_up node_eq c.self.inside.table.nodes n)) is in
    let marked : AreBegun (look_up node_eq c.end_as.new.table) c.end_as.new.begun.items × AreDistinct c.end_as.new.begun.items
    = held_from_last c.node_laws.ensures (look_up node_eq c.self.inside.table.nodes) (look_up node_eq c.end_as.new.table) c.self.inside.begun.items c.end_as.new.begun.items c.args.body.node c.in-Ok-held.id
    (c.in-Some.ensures.begun ∙ ap (λ (k : Asked). c.end_as.new.begun.items ++ k ∷ []) is) puts c.self.invariant.begun_once c.self.invariant.begun in
    let held : Held = record { body = c.args.body; place = length c.self.inside.order.items } in
    record {
      whole = subst (λ (xs : List (Option NodeId)). IsWhole c.hold_with-held.new.graph c.hold_with-held.new.slots.items c.hold_with-held.new.order.items xs) c.deref-2.ensures.value c.in-Ok-held.ensures.whole;
      found = record {
        nodes = found_last c.node_laws.ensures (look_up node_eq c.self.inside.table.nodes) (look_up node_eq c.end_as.new.table) c.self.inside.graph.nodes c.self.inside.graph.edges c.self.inside.slots.items c.hold_with-held.new.slots.items c.self.inside.order.items c.hold_with-held.new.order.items c.in-Ok-held.id held c.self.invariant.whole.placed.nodes_in
            puts c.in-Ok-held.ensures.order c.in-Ok-held.ensures.node (λ q n. c.hold_with-held.ensures.stays q (λ f. n (sym (c.vertices_of-found.ensures.stays q n) ∙ f)) ∙ c.vertices_of-found.ensures.stays q n)
            (subst (λ (m : Memory). IsNew m.held c.args.body.node) (sym c.self.view_is) c.requires.new) c.self.invariant.found.nodes;
        right = right_last c.node_laws.ensures (look_up node_eq c.self.inside.table.nodes) (look_up node_eq c.end_as.new.table) c.self.inside.slots.items c.hold_with-held.new.slots.items c.in-Ok-held.id held puts c.in-Ok-held.ensures.node
            (λ q n. c.hold_with-held.ensures.stays q (λ f. n (sym (c.vertices_of-found.ensures.stays q n) ∙ f)) ∙ c.vertices_of-found.ensures.stays q n) c.self.invariant.found.right;
        keys = held_keys ((goal.at.invariant_of-self-2 c).After-hold_with-held);
      };
      begun = marked.0;
      begun_once = marked.1;
      counted =
          let counted = c.self.invariant.counted in
          let was = entries_length c.vertices_of-found.new.graph.edges c.vertices_of-found.new.slots.items 0 c.self.inside.order.items in
          let now = entries_length c.hold_with-held.new.graph.edges c.hold_with-held.new.slots.items 0 c.hold_with-held.new.order.items in
          let more = push_length _ _ _ c.in-Ok-held.ensures.held in
          omega (arith, counted, was, now, more);
      few = let few = c.if-self-ge-MOST.false in omega (arith, few);
    }

pub returns-in_default-clause-full : goal.returns-in_default-clause-full
returns-in_default-clause-full c =
    let counted = c.self.invariant.counted in
    let seen = entries_length c.self.inside.graph.edges c.self.inside.slots.items 0 c.self.inside.order.items in
    let view = ap (λ (m : Memory). length m.held) c.self.view_is in
    let few = c.if-self-ge-MOST.false in
    (λ e. cc, λ many. absurd (omega (arith, counted, seen, view, few, many)))

pub invariant_of-self : goal.invariant_of-self
invariant_of-self c = record {
  whole = subst (λ (xs : List (Option NodeId)). IsWhole c.vertices_of-found.new.graph c.vertices_of-found.new.slots.items xs c.vertices_of-found.new.keys.items) c.deref.ensures.value c.vertices_of-found.ensures.whole;
  found = record {
    nodes = found_same (look_up node_eq c.self.inside.table.nodes) (look_up node_eq c.self.inside.table.nodes) c.self.inside.graph.nodes c.self.inside.slots.items c.vertices_of-found.new.slots.items c.self.inside.order.items c.self.invariant.whole.placed.nodes_in
        (λ n. refl) c.vertices_of-found.ensures.stays c.self.invariant.found.nodes;
    right = right_same (look_up node_eq c.self.inside.table.nodes) (look_up node_eq c.self.inside.table.nodes) c.self.inside.slots.items c.vertices_of-found.new.slots.items (λ n. refl) c.vertices_of-found.ensures.stays c.self.invariant.found.right;
    keys = c.vertices_of-found.ensures.watched;
  };
  begun = c.self.invariant.begun;
  begun_once = c.self.invariant.begun_once;
  counted = c.self.invariant.counted;
  few = c.self.invariant.few;
}

pub invariant_of-self-in_default-held : goal.invariant_of-self-in_default-held
invariant_of-self-in_default-held c =
    let still : c.hold_with-held.new.order.items ≡ c.self.inside.order.items = c.in_default-held.ensures.still in
    record {
      whole = subst (λ (xs : List (Option NodeId)). IsWhole c.hold_with-held.new.graph c.hold_with-held.new.slots.items c.hold_with-held.new.order.items xs) c.deref-2.ensures.value c.hold_with-held.ensures.whole;
      found = record {
        nodes = subst (λ (xs : List (Option NodeId)). IsFound (look_up node_eq c.self.inside.table.nodes) c.hold_with-held.new.slots.items xs) (sym still)
            (found_same (look_up node_eq c.self.inside.table.nodes) (look_up node_eq c.self.inside.table.nodes) c.self.inside.graph.nodes c.self.inside.slots.items c.hold_with-held.new.slots.items c.self.inside.order.items c.self.invariant.whole.placed.nodes_in
            (λ n. refl) (λ q n. c.hold_with-held.ensures.stays q (λ f. n (sym (c.vertices_of-found.ensures.stays q n) ∙ f)) ∙ c.vertices_of-found.ensures.stays q n) c.self.invariant.found.nodes);
        right = right_same (look_up node_eq c.self.inside.table.nodes) (look_up node_eq c.self.inside.table.nodes) c.self.inside.slots.items c.hold_with-held.new.slots.items (λ n. refl)
            (λ q n. c.hold_with-held.ensures.stays q (λ f. n (sym (c.vertices_of-found.ensures.stays q n) ∙ f)) ∙ c.vertices_of-found.ensures.stays q n) c.self.invariant.found.right;
        keys = held_keys ((goal.at.invariant_of-self-in_default-held c).After-hold_with-held);
      };
      begun = c.self.invariant.begun;
      begun_once = c.self.invariant.begun_once;
      counted = c.self.invariant.counted ∙ ap held_in (sym still);
      few = c.self.invariant.few;
    }
