use Rattle.std.proofs.Common.{Option, subst}
use Rattle.mx_outside.specs.Files.{FileMap}
use Rattle.mx_project.specs.Folder.{edit_file, refs_file, refs_words, inputs_file, inputs_words}
use Rattle.mx_project.specs.Reading.{OneByOne, EditsFrom, ReadsEnds, UnlessFault, left_by}
use Rattle.mx_project.proofs.ReadLemmas.{faulted, weaker_fault, last_one}
use Rattle.mx_project.proofs.read.edit_ends.Goals as goal

pub returns-in-Ok-clause-edits : goal.returns-in-Ok-clause-edits
returns-in-Ok-clause-edits g c =
    let told = g.F.Files.held c.args.files.now in
    weaker_fault (EditsFrom told c.args.folder.now c.edit_refs.new.world (edit_file inputs_file inputs_words)) (ReadsEnds told c.args.folder.now c.args.world.now) (left_by c.edit_inputs.result c.edit_inputs.new.world)
    (λ answer step. OneByOne.goes_on c.edit_refs.new.world c.in-Ok.ensures.edits (last_one (EditsFrom told c.args.folder.now) c.edit_refs.new.world (edit_file inputs_file inputs_words) answer step))
    (subst (λ (files : Option FileMap). UnlessFault (EditsFrom files c.args.folder.now c.edit_refs.new.world (edit_file inputs_file inputs_words)) (left_by c.edit_inputs.result c.edit_inputs.new.world)) c.in-Ok.ensures.held c.edit_inputs.ensures.edits)

pub returns-in-Err-clause-edits : goal.returns-in-Err-clause-edits
returns-in-Err-clause-edits g c =
    let told = g.F.Files.held c.args.files.now in
    faulted (EditsFrom told c.args.folder.now c.args.world.now (edit_file refs_file refs_words)) (ReadsEnds told c.args.folder.now c.args.world.now) c.in-Err.why (λ step. OneByOne.stops step) c.in-Err.ensures.edits
