use Rattle.std.proofs.Common.{◌≡◌, ◌∙◌, Option, IfSome, subst}
use Rattle.mx_model.specs.Indexed.{IsFront}
use Rattle.std.specs.List.{filter_map}
use Rattle.std.proofs.lemmas.Result.{IfOk-weaker}
use Rattle.mx_model.specs.Layers.{id_in}
use Rattle.mx_model.proofs.Fronts.{kept_stay}
use Rattle.mx_model.proofs.beside.list_of.Goals as goal

pub returns-in-Some-list_kept : goal.returns-in-Some-list_kept
returns-in-Some-list_kept c =
    let kept = c.in-Some.kept.now in
    let Front : Option _ → Type 0 = λ o. IfSome o (λ k. IsFront k.now.paths.now c.args.paths.now) in
    let front : IsFront kept.paths.now c.args.paths.now = subst Front c.in-Some.is c.requires.front in
    let is = kept_stay kept.paths.now c.args.paths.now c.args.bases.now c.in-Some-list_kept.ids.now c.in-Some-list_kept.ensures front in
    IfOk-weaker c.copy.result (λ ids. ids ≡ c.in-Some-list_kept.ids.now) (λ ids. ids ≡ filter_map (id_in c.args.paths.now) c.args.bases.now) (λ ids e. e ∙ is) c.copy.ensures
