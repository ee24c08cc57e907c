use Rattle.std.proofs.Common.{◌≡◌, Err}
use Rattle.mx_value.specs.declared.label.Label.{Label}
use Rattle.mx_project.specs.Folder.{edit_file}
use Rattle.mx_project.specs.Reading.{Said, Puts, EditsBy, left_by, form_trouble, line_at}
use Rattle.mx_project.proofs.ReadLemmas.{handed_on, weaker, ill_line}
use Rattle.mx_project.proofs.edits.edit_line.Goals as goal

pub returns-in-Err : goal.returns-in-Err
returns-in-Err c =
    handed_on (λ (answer : Said Label). answer ≡ Err (form_trouble c.args.file.now.name c.args.line c.in-Err.why)) (EditsBy (edit_file c.args.file.now.name c.args.file.now.words.now) c.args.world.now (line_at c.args.line c.args.text.now)) c.line_trouble.result
    (λ ne is. ill_line (edit_file c.args.file.now.name c.args.file.now.words.now) c.args.world.now c.args.line c.args.text.now c.in-Err.why c.line_trouble.result (λ m. c.in-Err.ensures.found (λ e. m cc)) ne cc)
    c.line_trouble.ensures

pub returns-in-Ok-Edit : goal.returns-in-Ok-Edit
returns-in-Ok-Edit c =
    weaker (Puts c.args.file.now.name c.args.world.now c.args.line c.in-Ok-Edit.edit) (EditsBy (edit_file c.args.file.now.name c.args.file.now.words.now) c.args.world.now (line_at c.args.line c.args.text.now)) (left_by c.put_edit.result c.put_edit.new.world)
    (λ answer puts. EditsBy.edits c.in-Ok-Edit.edit (rw c.in-Ok-Edit.field-0-is at (c.in-Ok-Edit.ensures.found (λ e. absurd cc))) puts) c.put_edit.ensures
