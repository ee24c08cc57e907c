use Rattle.std.proofs.Common.{◌∙◌, List, sym, ap}
use Rattle.mx_value.specs.declared.value.Segment.{Segment}
use Rattle.mx_value.specs.declared.namespace.Namespace.{Namespace}
use Rattle.mx_model.specs.Keys.{key_result}
use Rattle.mx_meaning.specs.Namespaces.{Overlay}
use Rattle.mx_walks.specs.Ways.{Came}
use Rattle.mx_walks.proofs.Static.{begun_on, static_walk}
use Rattle.mx_walks.proofs.near.walk_from.Goals as goal

pub returns-then-is_at : goal.returns-then-is_at
returns-then-is_at c =
    let look = key_result c.args.world.now in
    let at = c.args.at.now in
    let near = c.in-Some.near.now in
    let is = c.is_at.ensures c.if-is_at.true in
    ap (λ (ns : Namespace). Came ns) c.in_ok-copy.ensures
    ∙ ap (λ (x : List Segment). Came (record { at = x; source = near.source; overlay = near.overlay })) is.same
    ∙ ap (λ (x : Overlay). Came (record { at = at; source = near.source; overlay = x })) is.alone
    ∙ sym (static_walk look at near.source is.names is.few)
    ∙ begun_on look at is.some
