use Rattle.std.proofs.Common.{◌≡◌, ◌∙◌, ◌∷◌, [], List, Option, map, Ok, Err, ap, subst}
use Rattle.mx_outside.specs.Files.{FileMap}
use Rattle.mx_model.specs.Records.{Name}
use Rattle.mx_project.specs.Folder.{edit_file, refs_file, refs_words, inputs_file, inputs_words, tops}
use Rattle.mx_project.specs.Reading.{EditsFrom, ReadsEdits, ReadsEnds, ReadsSpaces, UnlessFault, left_by, space_edits}
use Rattle.mx_project.proofs.ReadLemmas.{faulted, weaker_fault, and_then, stops_before}
use Rattle.mx_project.proofs.read.read_edits.Goals as goal

pub returns-in-Ok-clause-edits : goal.returns-in-Ok-clause-edits
returns-in-Ok-clause-edits g c =
    let told = g.F.Files.held c.args.files.now in
    let named : c.as_slice.result.now ≡ tops c.args.world.now = c.as_slice.ensures.value ∙ c.in_ok-tops.ensures ∙ ap tops c.text.ensures.exact in
    let spaces : ReadsSpaces told c.args.folder.now (tops c.args.world.now) c.args.world.now (Ok c.edit_spaces.new.world) =
    subst (λ (names : List Name). ReadsSpaces told c.args.folder.now names c.args.world.now (Ok c.edit_spaces.new.world)) named c.in-Ok.ensures.edits in
    weaker_fault (ReadsEnds told c.args.folder.now c.edit_spaces.new.world) (ReadsEdits told c.args.folder.now c.args.world.now) (left_by c.edit_ends.result c.edit_ends.new.world)
    (λ answer ends. and_then (EditsFrom told c.args.folder.now) c.args.world.now (map space_edits (tops c.args.world.now)) c.edit_spaces.new.world (edit_file refs_file refs_words ∷ edit_file inputs_file inputs_words ∷ []) answer spaces ends)
    (subst (λ (files : Option FileMap). UnlessFault (ReadsEnds files c.args.folder.now c.edit_spaces.new.world) (left_by c.edit_ends.result c.edit_ends.new.world)) c.in-Ok.ensures.held c.edit_ends.ensures.edits)

pub returns-clause-edits : goal.returns-clause-edits
returns-clause-edits g c =
    let told = g.F.Files.held c.args.files.now in
    let named : c.as_slice.result.now ≡ tops c.args.world.now = c.as_slice.ensures.value ∙ c.in_ok-tops.ensures ∙ ap tops c.text.ensures.exact in
    faulted (ReadsSpaces told c.args.folder.now (tops c.args.world.now) c.args.world.now) (ReadsEdits told c.args.folder.now c.args.world.now) c.in-Err.why
    (λ spaces. stops_before (EditsFrom told c.args.folder.now) c.args.world.now (map space_edits (tops c.args.world.now)) (edit_file refs_file refs_words ∷ edit_file inputs_file inputs_words ∷ []) c.in-Err.why spaces)
    (subst (λ (names : List Name). UnlessFault (ReadsSpaces told c.args.folder.now names c.args.world.now) (Err c.in-Err.why)) named c.in-Err.ensures.edits)
