use Rattle.std.proofs.Common.{refl}
use Rattle.mx_edit.specs.declared.reference.RefValue.TheVariants as ref
use Rattle.mx_apply.proofs.NeedLemmas.{sound_to}
use Rattle.mx_apply.proofs.statics.is_target.Goals as goal

pub is_static-requires : goal.is_static-requires
is_static-requires c = sound_to c.args.text.now c.args.value.now (ref.Target c.in-Target.path c.in-Target.fixed) c.requires c.in-Target.is refl

pub is_cells-requires : goal.is_cells-requires
is_cells-requires c = sound_to c.args.text.now c.args.value.now (ref.Target c.in-Target.path c.in-Target.fixed) c.requires c.in-Target.is refl
