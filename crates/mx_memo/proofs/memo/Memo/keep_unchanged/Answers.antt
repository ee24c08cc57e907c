use Rattle.std.proofs.Common.{length, ap, arith}
use Rattle.std.specs.HashMap.{get as look_up}
use Rattle.mx_value.specs.Equality.{node_eq}
use Rattle.mx_memo.specs.Memos.{Memory}
use Rattle.mx_vertices.proofs.Begun.{begun_same}
use Rattle.mx_invalidation.proofs.Keeping.{entries_length}
use Rattle.mx_memo.proofs.memo.Memo.keep_unchanged.Goals as goal

pub overflow_sub-result : goal.overflow_sub-result
overflow_sub-result g c = c.drop_changed.ensures.less

pub invariant_of-self : goal.invariant_of-self
invariant_of-self g c = record {
  whole = c.drop_changed.ensures.whole;
  found = c.drop_changed.ensures.found;
  begun = begun_same (look_up node_eq c.self.inside.table.nodes) (look_up node_eq c.drop_changed.new.table.nodes) c.self.inside.begun.items c.drop_changed.ensures.begun c.self.invariant.begun;
  begun_once = c.self.invariant.begun_once;
  counted = c.drop_changed.ensures.count;
  few = let less = c.drop_changed.ensures.less in let few = c.self.invariant.few in omega (arith, less, few);
}

pub returns-clause-count : goal.returns-clause-count
returns-clause-count g c =
    let was = c.self.invariant.counted in
    let seen = entries_length c.self.inside.graph.edges c.self.inside.slots.items 0 c.self.inside.order.items in
    let left = entries_length c.drop_changed.new.graph.edges c.drop_changed.new.slots.items 0 c.drop_changed.new.order.items in
    let now = c.drop_changed.ensures.count in
    let less = c.drop_changed.ensures.less in
    let view = ap (λ (m : Memory). length m.held) c.self.view_is in
    omega (arith, was, seen, left, now, less, view)
