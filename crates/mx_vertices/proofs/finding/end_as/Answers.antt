use Rattle.std.proofs.Common.{◌≡◌, ◌∙◌, true, false, List, Option, None, sym, ap, subst}
use Rattle.std.specs.HashMap.{get as look_up}
use Rattle.mx_value.specs.declared.node.Node.{Node as Asked}
use Rattle.mx_value.specs.Equality.{node_eq}
use Rattle.mx_vertices.specs.declared.standing.Standing.{Standing}
use Rattle.mx_vertices.specs.Places.{Has}
use Rattle.mx_vertices.specs.Found.{is_begun}
use Rattle.mx_vertices.proofs.Begun.{has_end}
use Rattle.mx_vertices.proofs.finding.end_as.Goals as goal

pub unreachable-requires : goal.unreachable-requires
unreachable-requires c =
    let last : Has c.args.begun.now.items c.in-Some.node = subst (λ (ns : List Asked). Has ns c.in-Some.node) (sym c.in-Some.ensures.items) (has_end c.pop.new.self.items c.in-Some.node) in
    let none : None ≡ look_up node_eq c.args.table.now c.in-Some.node = ap (λ (o : Option Standing). o) c.in_default-get_mut.ensures.value in
    let no : false ≡ true = ap is_begun none ∙ (c.requires c.in-Some.node).1 last in
    cc
