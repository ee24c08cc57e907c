use Rattle.std.proofs.Common.{◌≡◌, List, subst, inl, inr}
use Rattle.mx_graph.specs.declared.ids.NodeId.{NodeId}
use Rattle.mx_vertices.specs.Places.{Has}
use Rattle.mx_vertices.specs.Kept.{IsHeld}
use Rattle.mx_vertices.proofs.Sources.{has_push}
use Rattle.mx_memo_rows.proofs.holding.ask_one.Goals as goal

pub returns : goal.returns
returns c id h =
    let found = c.in-Some.ensures.some in
    elim (has_push c.args.asks.now.items c.in-Some.id id (subst (λ (xs : List NodeId). Has xs id) c.in_ok-push.ensures.items h)) [
      | inl i ↦ c.requires id i
      | inr e ↦ subst (λ (k : NodeId). IsHeld c.args.memo.now.held k.at) e (record { entry = found.entry; among = found.among; is = found.id_is })
    ]
