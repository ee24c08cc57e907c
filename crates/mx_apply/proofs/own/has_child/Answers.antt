use Rattle.std.proofs.Common.{◌∙◌, [], ◌∷◌, ◌++◌, ap}
use Rattle.mx_model.specs.Records.{Path}
use Rattle.mx_model.specs.Paths.{is_defined}
use Rattle.mx_apply.proofs.own.has_child.Goals as goal

pub returns : goal.returns
returns c =
    c.is_defined.ensures ∙ ap (is_defined c.args.text.now) (c.in_ok-child.ensures ∙ ap (λ (names : Path). names ++ c.args.name.now ∷ []) c.as_slice.ensures)
