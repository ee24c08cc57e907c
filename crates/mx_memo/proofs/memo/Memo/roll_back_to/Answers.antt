use Rattle.std.proofs.Common.{◌<◌, subst, arith}
use Rattle.mx_vertices.specs.Kept.{IsTouched, Sifts, entries}
use Rattle.std.specs.HashMap.{get as look_up}
use Rattle.mx_value.specs.Equality.{node_eq}
use Rattle.mx_memo.specs.Memos.{Memory}
use Rattle.mx_vertices.proofs.Begun.{begun_same}
use Rattle.mx_memo.proofs.memo.Memo.roll_back_to.Goals as goal

pub invariant_of-self : goal.invariant_of-self
invariant_of-self c = record {
  whole = c.drop_after.ensures.whole;
  found = c.drop_after.ensures.found;
  begun = begun_same (look_up node_eq c.self.inside.table.nodes) (look_up node_eq c.drop_after.new.table.nodes) c.self.inside.begun.items c.drop_after.ensures.begun c.self.invariant.begun;
  begun_once = c.self.invariant.begun_once;
  counted = c.drop_after.ensures.count;
  few = let less = c.drop_after.ensures.less in let few = c.self.invariant.few in omega (arith, less, few);
}

pub returns-clause-drops : goal.returns-clause-drops
returns-clause-drops c =
    subst (λ (m : Memory). Sifts (IsTouched (λ r. c.args.stamp < r.stamp) m.held) m.held (entries c.drop_after.new.graph.edges c.drop_after.new.slots.items 0 c.drop_after.new.order.items)) c.self.view_is c.drop_after.ensures.sifts
