use Rattle.std.proofs.Common.{◌≡◌, Err}
use Rattle.mx_value.specs.declared.label.Label.{Label}
use Rattle.mx_project.specs.Reading.{Said, Puts, edit_trouble}
use Rattle.mx_project.proofs.ReadLemmas.{handed_on, refused_edit}
use Rattle.mx_project.proofs.edits.put_edit.Goals as goal

pub returns-in-Ok : goal.returns-in-Ok
returns-in-Ok c = rw c.commit.ensures (Puts.made c.in-Ok.prepared c.in-Ok.ensures)

pub returns-in-Err : goal.returns-in-Err
returns-in-Err c =
    handed_on (λ (answer : Said Label). answer ≡ Err (edit_trouble c.args.file.now c.args.line c.in-Err.why)) (Puts c.args.file.now c.args.world.now c.args.line c.args.edit.now) c.edit_trouble.result
    (λ ne is. refused_edit c.args.file.now c.args.world.now c.args.line c.args.edit.now c.in-Err.why c.edit_trouble.result c.in-Err.ensures ne cc)
    c.edit_trouble.ensures
