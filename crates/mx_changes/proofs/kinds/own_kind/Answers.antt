use Rattle.std.proofs.Common.{◌∙◌, None, Some, [], ◌∷◌, ◌++◌, ap, sym}
use Rattle.mx_model.specs.Records.{Path}
use Rattle.mx_changes.proofs.KindChanges.{own_by}
use Rattle.mx_changes.proofs.kinds.own_kind.Goals as goal

pub returns-in-Some-id_of : goal.returns-in-Some-id_of
returns-in-Some-id_of c =
    let name = c.args.name.now in
    let at = c.in_ok-path.ensures ∙ ap (λ (names : Path). names ++ name ∷ []) (c.as_slice.ensures ∙ c.path.ensures) in
    own_by c.args.text.now name c.args.space.now c.in_ok-path.path (Some c.in-Some-id_of.field-0) c.in-None.ensures c.in-None-reference.ensures at (sym c.in-Some-id_of.is ∙ c.id_of.ensures)

pub returns-in-None-id_of : goal.returns-in-None-id_of
returns-in-None-id_of c =
    let name = c.args.name.now in
    let at = c.in_ok-path.ensures ∙ ap (λ (names : Path). names ++ name ∷ []) (c.as_slice.ensures ∙ c.path.ensures) in
    own_by c.args.text.now name c.args.space.now c.in_ok-path.path None c.in-None.ensures c.in-None-reference.ensures at (sym c.in-None-id_of.is ∙ c.id_of.ensures)
