use Rattle.std.proofs.Common.{◌≡◌, [], List, ap, sym, subst}
use Rattle.mx_graph.specs.declared.ids.NodeId.{NodeId}
use Rattle.mx_vertices.specs.Places.{Has}
use Rattle.mx_memo_rows.proofs.holding.asks_of.Goals as goal

pub loop-n-init : goal.loop-n-init
loop-n-init c id h = absurd (subst (λ (xs : List NodeId). Has xs id) c.new-asks.ensures.items h)
