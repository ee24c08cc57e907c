use Rattle.std.proofs.Common.{◌≡◌, length, ap, sym, subst, arith}
use Rattle.mx_vertices.specs.Kept.{IsHeld, IsTouched, Sifts, entries}
use Rattle.std.specs.HashMap.{get as look_up}
use Rattle.mx_value.specs.Equality.{node_eq}
use Rattle.mx_memo.specs.Memos.{Memory}
use Rattle.mx_vertices.proofs.Begun.{begun_same}
use Rattle.mx_invalidation.proofs.Keeping.{entries_length}
use Rattle.mx_vertices.proofs.Reading.{held_node}
use Rattle.mx_memo.proofs.memo.Memo.drop_node.Goals as goal

pub overflow_sub-result : goal.overflow_sub-result
overflow_sub-result c = c.drop_one.ensures.less

pub invariant_of-self : goal.invariant_of-self
invariant_of-self c = record {
  whole = c.drop_one.ensures.whole;
  found = c.drop_one.ensures.found;
  begun = begun_same (look_up node_eq c.self.inside.table.nodes) (look_up node_eq c.drop_one.new.table.nodes) c.self.inside.begun.items c.drop_one.ensures.begun c.self.invariant.begun;
  begun_once = c.self.invariant.begun_once;
  counted = c.drop_one.ensures.count;
  few = let less = c.drop_one.ensures.less in let few = c.self.invariant.few in omega (arith, less, few);
}

pub returns-clause-count : goal.returns-clause-count
returns-clause-count c =
    let was = c.self.invariant.counted in
    let seen = entries_length c.self.inside.graph.edges c.self.inside.slots.items 0 c.self.inside.order.items in
    let left = entries_length c.drop_one.new.graph.edges c.drop_one.new.slots.items 0 c.drop_one.new.order.items in
    let now = c.drop_one.ensures.count in
    let less = c.drop_one.ensures.less in
    let view = ap (λ (m : Memory). length m.held) c.self.view_is in
    omega (arith, was, seen, left, now, less, view)

pub drop_one-requires-clause-node : goal.drop_one-requires-clause-node
drop_one-requires-clause-node c =
    held_node c.self.inside.graph c.self.inside.slots.items c.self.inside.order.items c.self.inside.keys.items c.self.invariant.whole c.args.from.at (subst (λ (m : Memory). IsHeld m.held c.args.from.at) (sym c.self.view_is) c.requires)

pub returns-clause-drops : goal.returns-clause-drops
returns-clause-drops c =
    subst (λ (m : Memory). Sifts (IsTouched (λ r. r.id ≡ c.args.from.at) m.held) m.held (entries c.drop_one.new.graph.edges c.drop_one.new.slots.items 0 c.drop_one.new.order.items)) c.self.view_is c.drop_one.ensures.sifts
