use Rattle.std.proofs.Common.{◌∙◌, ◌≡◌, [], ◌∷◌, ◌++◌, ◌+◌, take, ap, sym, subst}
use Rattle.std.proofs.lemmas.List.{take_more}
use Rattle.mx_model.specs.Records.{Name}
use Rattle.mx_model.specs.declared.layers.Layered.{Layered}
use Rattle.mx_model.specs.Layers.{below, further}
use Rattle.mx_model.specs.Sound.{HasSpaces}
use Rattle.mx_model.proofs.SoundLemmas.{below_spaces}
use Rattle.mx_model.proofs.LayerSteps.{further_more}
use Rattle.mx_model.proofs.layers.further.Goals as goal

pub loop-name-preserved : goal.loop-name-preserved
loop-name-preserved c =
    let text = c.args.text.now in
    let names = c.args.names.now in
    let i = c.loop-name.name-index in
    let name = c.name-item.result in
    let was = c.loop-name.invariant in
    let taken : take i names ++ name ∷ [] ≡ take (i + 1) names = ap (λ (n : Name). take i names ++ n ∷ []) c.name-item.is ∙ sym (take_more names i name c.loop-name-test.true) in
    let P : Layered → Type 0 = λ reached. HasSpaces text reached in (
      c.in_ok-reached.ensures ∙ ap (λ (r : Layered). below text r name) was.0 ∙ sym (further_more text c.args.start (take i names) name) ∙ ap (further text c.args.start) taken,
      subst P (sym c.in_ok-reached.ensures) (below_spaces text c.requires.sound c.loop-name.reached name was.1),
    )
