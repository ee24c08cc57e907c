use Rattle.std.proofs.Common.{refl}
use Rattle.mx_edit.specs.declared.edit.Edit.TheVariants as edit
use Rattle.mx_apply.proofs.NeedLemmas.{sound_for}
use Rattle.mx_apply.proofs.refusals.no_such_member.Goals as goal

pub is_target-requires : goal.is_target-requires
is_target-requires c names = sound_for c.args.text.now c.args.edit.now (edit.SetRef c.in-SetRef.path c.in-SetRef.name c.in-SetRef.value) c.requires c.in-SetRef.is names

pub lacks_cells-requires : goal.lacks_cells-requires
lacks_cells-requires c =
    sound_for c.args.text.now c.args.edit.now (edit.SetInput c.in-SetInput.space c.in-SetInput.name c.in-SetInput.args c.in-SetInput.value) c.requires c.in-SetInput.is refl

pub lacks_cells-requires-in-DelInput : goal.lacks_cells-requires-in-DelInput
lacks_cells-requires-in-DelInput c =
    sound_for c.args.text.now c.args.edit.now (edit.DelInput c.in-DelInput.space c.in-DelInput.name c.in-DelInput.args) c.requires c.in-DelInput.is refl
