use Rattle.std.proofs.Common.{◌∙◌, List, [], ◌++◌, get_or, ap, sym, subst}
use Rattle.std.specs.List.{cons_option}
use Rattle.std.proofs.lemmas.List.{append-nil}
use Rattle.mx_c3.specs.declared.space.SpaceId.{SpaceId}
use Rattle.mx_c3.specs.Lists.{Has}
use Rattle.mx_c3.proofs.ListLemmas.{has_at}
use Rattle.mx_model.specs.Layers.{child_of}
use Rattle.mx_model.proofs.LayerSteps.{child_more}
use Rattle.mx_model.proofs.layers.children_of.Goals as goal
use Rattle.mx_model.proofs.layers.children_of.Goals.{in-Some+in_ok-push-in-Some, in-None}

abbrev first : SpaceId
first = record { 0 = 0 }

pub child_of-requires : goal.child_of-requires
child_of-requires c =
    let items = c.as_slice-s-items.result.now in
    let s = get_or items c.loop-s.s-index first in
    let P : List SpaceId → Type 0 = λ xs. Has xs s in
    c.requires s (subst P c.as_slice-s-items.ensures (has_at items c.loop-s.s-index first c.loop-s-test.true))

pub loop-s-preserved : goal.loop-s-preserved
loop-s-preserved c =
    let items = c.as_slice-s-items.result.now in
    let child = child_of c.args.text.now c.args.name.now in
    let more = child_more child items c.loop-s.s-index first c.in_ok-child.field-0 c.loop-s-test.true c.in_ok-child.ensures in
    let before = c.loop-s.invariant in
    elim c.match-branch-2.branch [
      | in-Some+in_ok-push-in-Some w ↦
          let last = ap (λ o. c.loop-s.children.items ++ cons_option o []) w.in-Some.is in
          ap (λ v. v.items) w.children-is ∙ w.in_ok-push-in-Some.ensures.items ∙ sym last ∙ ap (λ (xs : List SpaceId). xs ++ cons_option c.in_ok-child.field-0 []) before ∙ sym more
      | in-None w ↦
          let last = ap (λ o. c.loop-s.children.items ++ cons_option o []) w.in-None.is in
          ap (λ v. v.items) w.children-is ∙ sym (append-nil c.loop-s.children.items) ∙ sym last ∙ ap (λ (xs : List SpaceId). xs ++ cons_option c.in_ok-child.field-0 []) before ∙ sym more
    ]
