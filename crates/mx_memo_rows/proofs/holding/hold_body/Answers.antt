use Rattle.std.proofs.Common.{List, sym, subst}
use Rattle.mx_graph.specs.declared.ids.NodeId.{NodeId}
use Rattle.mx_vertices.specs.Places.{Has}
use Rattle.mx_vertices.specs.Kept.{IsHeld}
use Rattle.mx_memo.specs.Memos.{Memory}
use Rattle.mx_memo_rows.proofs.holding.hold_body.Goals as goal

pub hold-requires-clause-asks : goal.hold-requires-clause-asks
hold-requires-clause-asks c id h =
    subst (λ (m : Memory). IsHeld m.held id.at) (sym c.in_ok-begin.ensures.begun) (c.requires id (subst (λ (xs : List NodeId). Has xs id) c.deref.ensures.value h))
