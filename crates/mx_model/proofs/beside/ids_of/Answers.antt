use Rattle.std.proofs.Common.{◌∙◌, List, [], ◌++◌, ap, sym}
use Rattle.std.specs.List.{cons_option}
use Rattle.std.proofs.lemmas.List.{append-nil}
use Rattle.mx_c3.specs.declared.space.SpaceId.{SpaceId}
use Rattle.mx_model.specs.Layers.{id_in}
use Rattle.mx_model.proofs.LayerSteps.{child_more}
use Rattle.mx_model.proofs.beside.ids_of.Goals as goal
use Rattle.mx_model.proofs.beside.ids_of.Goals.{in-Some+in_ok-push-in-Some, in-None}

pub loop-base-preserved : goal.loop-base-preserved
loop-base-preserved c =
    let id = id_in c.args.paths.now in
    let found = c.id_in.result in
    let more = child_more id c.args.bases.now c.loop-base.base-index c.base-item.result found c.loop-base-test.true (c.id_in.ensures ∙ ap id c.base-item.is) in
    let before = c.loop-base.invariant in
    elim c.match-id_in.branch [
      | in-Some+in_ok-push-in-Some w ↦
          let last = ap (λ o. c.loop-base.ids.items ++ cons_option o []) w.in-Some.is in
          ap (λ v. v.items) w.ids-is ∙ w.in_ok-push-in-Some.ensures.items ∙ sym last ∙ ap (λ (xs : List SpaceId). xs ++ cons_option found []) before ∙ sym more
      | in-None w ↦
          let last = ap (λ o. c.loop-base.ids.items ++ cons_option o []) w.in-None.is in
          ap (λ v. v.items) w.ids-is ∙ sym (append-nil c.loop-base.ids.items) ∙ sym last ∙ ap (λ (xs : List SpaceId). xs ++ cons_option found []) before ∙ sym more
    ]
