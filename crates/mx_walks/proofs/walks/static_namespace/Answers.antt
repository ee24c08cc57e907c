use Rattle.std.proofs.Common.{◌≤◌, ◌∙◌, List, [], length, sym, ap, arith}
use Rattle.mx_value.specs.declared.label.Label.{Label}
use Rattle.mx_value.specs.declared.value.Segment.{Segment}
use Rattle.mx_meaning.specs.Namespaces.{Overlay}
use Rattle.mx_walks.specs.Ways.{Came}
use Rattle.mx_walks.proofs.Static.{static_walk}
use Rattle.mx_walks.proofs.walks.static_namespace.Goals as goal

pub returns-in-Some : goal.returns-in-Some
returns-in-Some c = λ look.
    let names : List Label = c.in-Some.source in
    let few : length c.args.at.now ≤ 64 = omega arith in
    static_walk look c.args.at.now names (sym c.in_ok-source.ensures ∙ c.in-Some.is) few
    ∙ ap (λ (x : List Segment). Came (record { at = x; source = names; overlay = [] })) (sym c.in_ok-at-in-Some.ensures)
    ∙ ap (λ (x : Overlay). Came (record { at = c.in_ok-at-in-Some.at; source = names; overlay = x })) (sym c.in_ok-overlay-in-Some.ensures)
