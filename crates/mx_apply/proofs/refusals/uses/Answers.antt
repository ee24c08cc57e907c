use Rattle.std.proofs.Common.{◌∙◌, sym, ap}
use Rattle.mx_model.specs.Records.{SpaceRecord}
use Rattle.mx_model.specs.Change.{is_within}
use Rattle.mx_apply.proofs.ValueLemmas.{uses_by}
use Rattle.mx_apply.proofs.refusals.uses.Goals as goal

pub returns : goal.returns
returns c =
    let stays = sym (c.is_within.ensures ∙ ap (is_within c.args.removed.now) c.path.ensures) ∙ c.if-is_within.false in
    uses_by c.args.removed.now c.args.space.now c.as_slice.result.now c.has_removed.result stays (c.as_slice.ensures ∙ ap (λ (s : SpaceRecord). s.bases) c.space.view_is) c.has_removed.ensures
