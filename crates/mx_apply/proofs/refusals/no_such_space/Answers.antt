use Rattle.std.proofs.Common.{refl}
use Rattle.mx_edit.specs.declared.edit.Edit.TheVariants as edit
use Rattle.mx_apply.proofs.NeedLemmas.{sound_for}
use Rattle.mx_apply.proofs.refusals.no_such_space.Goals as goal

pub lacks_path-requires : goal.lacks_path-requires
lacks_path-requires c =
    sound_for c.args.text.now c.args.edit.now (edit.SetInput c.in-SetInput.space c.in-SetInput.name c.in-SetInput.args c.in-SetInput.value) c.requires c.in-SetInput.is refl

pub lacks_path-requires-in-DelInput : goal.lacks_path-requires-in-DelInput
lacks_path-requires-in-DelInput c =
    sound_for c.args.text.now c.args.edit.now (edit.DelInput c.in-DelInput.space c.in-DelInput.name c.in-DelInput.args) c.requires c.in-DelInput.is refl
