use Rattle.std.proofs.Common.{◌∙◌, sym}
use Rattle.std.specs.Cmp.Lexicographic.{pointwise_decides}
use Rattle.mx_value.proofs.NodeSames.{path_decides}
use Rattle.mx_model.proofs.beside.are_same.Goals as goal

pub returns : goal.returns
returns c =
    let decides = pointwise_decides path_decides c.args.bases.now c.args.others.now in
    (λ t. decides.0 (sym c.eq.ensures ∙ t), λ e. c.eq.ensures ∙ decides.1 e)
