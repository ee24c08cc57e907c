use Rattle.std.proofs.Common.{refl}
use Rattle.mx_edit.specs.declared.edit.Edit.TheVariants as edit
use Rattle.mx_apply.proofs.NeedLemmas.{sound_for}
use Rattle.mx_apply.proofs.refusals.wrong_count.Goals as goal

pub do_not_bind-requires : goal.do_not_bind-requires
do_not_bind-requires c =
    sound_for c.args.text.now c.args.edit.now (edit.SetInput c.in-SetInput.space c.in-SetInput.name c.in-SetInput.args c.in-SetInput.value) c.requires c.in-SetInput.is refl

pub do_not_bind-requires-in-DelInput : goal.do_not_bind-requires-in-DelInput
do_not_bind-requires-in-DelInput c =
    sound_for c.args.text.now c.args.edit.now (edit.DelInput c.in-DelInput.space c.in-DelInput.name c.in-DelInput.args) c.requires c.in-DelInput.is refl
