use Rattle.std.proofs.Common.{List, Option, subst}
use Rattle.mx_graph.specs.declared.ids.NodeId.{NodeId}
use Rattle.mx_invalidation.specs.Stamps.{NoneFrom, IsFirstFrom, NoneAfter, IsNextAfter}
use Rattle.mx_memo.specs.Memos.{Memory}
use Rattle.mx_invalidation.proofs.Stamping.{none_after, next_after}
use Rattle.mx_vertices.proofs.Table.{map_match}
use Rattle.mx_memo.proofs.memo.Memo.after.Goals as goal

pub returns : goal.returns
returns c =
    map_match c.first_from.result (NoneFrom c.deref.result.now c.args.stamp) (NoneAfter c.args.self.now.held c.args.stamp) (λ id. IsFirstFrom c.deref.result.now c.args.stamp id) (λ id. IsNextAfter c.args.self.now.held c.args.stamp id.at)
    (λ n.
    subst (λ (m : Memory). NoneAfter m.held c.args.stamp) c.self.view_is
    (none_after c.self.inside.graph.edges c.self.inside.slots.items c.self.inside.order.items c.args.stamp (subst (λ (xs : List (Option NodeId)). NoneFrom xs c.args.stamp) c.deref.ensures.value n)))
    (λ id a.
    subst (λ (m : Memory). IsNextAfter m.held c.args.stamp id.at) c.self.view_is
    (next_after c.self.inside.graph.edges c.self.inside.slots.items c.self.inside.order.items c.args.stamp id (subst (λ (xs : List (Option NodeId)). IsFirstFrom xs c.args.stamp id) c.deref.ensures.value a)))
    c.first_from.ensures
