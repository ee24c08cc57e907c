use Rattle.std.proofs.Common.{refl}
use Rattle.mx_edit.specs.declared.edit.Edit.TheVariants as edit
use Rattle.mx_model.specs.Paths.{is_defined}
use Rattle.mx_model.specs.Refused.{is_holder}
use Rattle.mx_changes.proofs.Free.{free_at, is_true, bases_defined, allowed_cells}
use Rattle.mx_apply.proofs.NeedLemmas.{sound_for}
use Rattle.mx_apply.proofs.edits.changed.Goals as goal

pub with_new_space-requires-clause-held : goal.with_new_space-requires-clause-held
with_new_space-requires-clause-held c =
    let f = free_at c.args.text.now c.args.edit.now (edit.NewSpace c.in-NewSpace.parent c.in-NewSpace.name) c.requires.free c.in-NewSpace.is in
    is_true (is_holder c.args.text.now c.in-NewSpace.parent) f.spaces

pub with_new_space-requires-clause-free : goal.with_new_space-requires-clause-free
with_new_space-requires-clause-free c =
    let f = free_at c.args.text.now c.args.edit.now (edit.NewSpace c.in-NewSpace.parent c.in-NewSpace.name) c.requires.free c.in-NewSpace.is in
    f.names

pub with_bases-requires : goal.with_bases-requires
with_bases-requires c =
    let f = free_at c.args.text.now c.args.edit.now (edit.SetBases c.in-SetBases.path c.in-SetBases.bases) c.requires.free c.in-SetBases.is in
    bases_defined c.args.text.now c.in-SetBases.path c.in-SetBases.bases f

pub with_cells-requires : goal.with_cells-requires
with_cells-requires c =
    let f = free_at c.args.text.now c.args.edit.now (edit.SetCells c.in-SetCells.path c.in-SetCells.name c.in-SetCells.formula) c.requires.free c.in-SetCells.is in
    is_true (is_defined c.args.text.now c.in-SetCells.path) f.spaces

pub without_cells-requires : goal.without_cells-requires
without_cells-requires c =
    let f = free_at c.args.text.now c.args.edit.now (edit.DelCells c.in-DelCells.path c.in-DelCells.name) c.requires.free c.in-DelCells.is in
    is_true (is_defined c.args.text.now c.in-DelCells.path) f.spaces

pub with_setting-requires : goal.with_setting-requires
with_setting-requires c =
    let f = free_at c.args.text.now c.args.edit.now (edit.SetAllowNone c.in-SetAllowNone.path c.in-SetAllowNone.name c.in-SetAllowNone.flag) c.requires.free c.in-SetAllowNone.is in
    allowed_cells c.args.text.now c.in-SetAllowNone.path c.in-SetAllowNone.name c.in-SetAllowNone.flag f

pub with_reference-requires : goal.with_reference-requires
with_reference-requires c =
    let f = free_at c.args.text.now c.args.edit.now (edit.SetRef c.in-SetRef.path c.in-SetRef.name c.in-SetRef.value) c.requires.free c.in-SetRef.is in
    is_true (is_holder c.args.text.now c.in-SetRef.path) f.spaces

pub without_reference-requires : goal.without_reference-requires
without_reference-requires c =
    let f = free_at c.args.text.now c.args.edit.now (edit.DelRef c.in-DelRef.path c.in-DelRef.name) c.requires.free c.in-DelRef.is in
    is_true (is_holder c.args.text.now c.in-DelRef.path) f.spaces

pub with_params-requires : goal.with_params-requires
with_params-requires c =
    let f = free_at c.args.text.now c.args.edit.now (edit.SetParams c.in-SetParams.path c.in-SetParams.params) c.requires.free c.in-SetParams.is in
    is_true (is_defined c.args.text.now c.in-SetParams.path) f.spaces

pub bound_node-requires-clause-sound : goal.bound_node-requires-clause-sound
bound_node-requires-clause-sound c =
    sound_for c.args.text.now c.args.edit.now (edit.SetInput c.in-SetInput.space c.in-SetInput.name c.in-SetInput.args c.in-SetInput.value) c.requires.can c.in-SetInput.is refl

pub bound_node-requires-in-DelInput-clause-sound : goal.bound_node-requires-in-DelInput-clause-sound
bound_node-requires-in-DelInput-clause-sound c =
    sound_for c.args.text.now c.args.edit.now (edit.DelInput c.in-DelInput.space c.in-DelInput.name c.in-DelInput.args) c.requires.can c.in-DelInput.is refl
