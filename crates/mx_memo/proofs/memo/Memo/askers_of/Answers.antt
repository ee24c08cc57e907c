use Rattle.std.proofs.Common.{◌≡◌, List, Ok, refl, sym, subst}
use Rattle.std.proofs.lemmas.Iterator.{items_from_collect}
use Rattle.std.proofs.lemmas.Iterator.Consumers.{YieldsList-from_first}
use Rattle.mx_graph.specs.declared.ids.NodeId.{NodeId}
use Rattle.mx_vertices.specs.Kept.{asked}
use Rattle.mx_vertices.specs.Reading.{AreTakers}
use Rattle.mx_memo.proofs.memo.Memo.askers_of.Goals as goal

pub returns : goal.returns
returns c =
    let items : c.in_ok-collect.field-0.items ≡ c.askers.result = items_from_collect {E = Unit {0}} (Ok c.in_ok-collect.field-0) c.in_ok-collect.ensures.ran (YieldsList-from_first (λ x. x) (λ s. s) c.askers.result refl) in
    subst (λ (ids : List NodeId). AreTakers c.args.self.now.held (asked c.args.id.at) ids) (sym items) c.askers.ensures
