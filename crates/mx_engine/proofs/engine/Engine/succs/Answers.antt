use Rattle.std.proofs.Common.{◌≡◌, List, map, sym, ◌∙◌, ap, subst}
use Rattle.mx_graph.specs.declared.ids.NodeId.{NodeId}
use Rattle.mx_vertices.specs.Reading.{id_at}
use Rattle.mx_memo.specs.Memos.{AreHeld}
use Rattle.mx_memo_laws.specs.Entries.{nodes_under}
use Rattle.mx_state.specs.State.{State}
use Rattle.mx_engine.specs.Gathering.{gathered}
use Rattle.mx_engine.specs.Successors.{AreSuccessors}
use Rattle.mx_engine.proofs.Succeeding.{are_successors, sorted_ok}
use Rattle.mx_engine.proofs.engine.Engine.succs.Goals as goal

pub nodes_of-requires-clause-held : goal.nodes_of-requires-clause-held
nodes_of-requires-clause-held c = subst (λ (ids : List NodeId). AreHeld c.self.inside.memo.held ids) (sym c.deref.ensures.value) c.in_ok-ids.ensures.held

pub returns : goal.returns
returns c =
    let keys : c.as_slice.result.now ≡ gathered (nodes_under c.self.inside.memo.held (map id_at c.in_ok-ids.ids.items)) =
    c.as_slice.ensures.keys ∙ c.in_ok-nodes.ensures ∙ ap (λ (ids : List NodeId). gathered (nodes_under c.self.inside.memo.held (map id_at ids))) c.deref.ensures.value in
    sorted_ok c.as_slice.result.now c.by_text.result (λ nodes. AreSuccessors c.args.self.now c.args.node.now nodes)
    (λ nodes p ordered.
    subst (λ (s : State). AreSuccessors s c.args.node.now nodes) c.self.view_is
    (are_successors c.self.inside.world c.self.inside.memo c.self.inside.limit c.args.node.now c.in_ok-ids.ids.items c.as_slice.result.now nodes c.in_ok-ids.ensures keys p ordered))
    (c.by_text.ensures c.as_slice.result.now c.in_ok-rows.ensures)
