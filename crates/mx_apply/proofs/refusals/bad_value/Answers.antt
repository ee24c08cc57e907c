use Rattle.std.proofs.Common.{refl}
use Rattle.mx_edit.specs.declared.edit.Edit.TheVariants as edit
use Rattle.mx_apply.proofs.NeedLemmas.{sound_for}
use Rattle.mx_apply.proofs.refusals.bad_value.Goals as goal

pub bound_node-requires-clause-sound : goal.bound_node-requires-clause-sound
bound_node-requires-clause-sound c =
    sound_for c.args.text.now c.args.edit.now (edit.SetInput c.in-SetInput.space c.in-SetInput.name c.in-SetInput.args c.in-SetInput.value) c.requires.can c.in-SetInput.is refl

pub bound_node-requires-in-DelInput-clause-sound : goal.bound_node-requires-in-DelInput-clause-sound
bound_node-requires-in-DelInput-clause-sound c =
    sound_for c.args.text.now c.args.edit.now (edit.DelInput c.in-DelInput.space c.in-DelInput.name c.in-DelInput.args) c.requires.can c.in-DelInput.is refl
