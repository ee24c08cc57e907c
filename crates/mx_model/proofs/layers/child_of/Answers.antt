use Rattle.std.proofs.Common.{◌∙◌, [], ◌∷◌, ◌++◌, ap}
use Rattle.mx_model.specs.Records.{Path}
use Rattle.mx_model.specs.Layers.{id_of}
use Rattle.mx_model.proofs.LayerSteps.{child_is}
use Rattle.mx_model.proofs.layers.child_of.Goals as goal

pub returns : goal.returns
returns c =
    let text = c.args.text.now in
    let name = c.args.name.now in
    let is = c.in_ok-path.ensures ∙ ap (λ (names : Path). names ++ name ∷ []) c.as_slice.ensures in
    c.id_of.ensures ∙ ap (id_of text) is ∙ child_is text name c.args.s c.path_of.result.now c.path_of.ensures
