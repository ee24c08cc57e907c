use Rattle.mx_project.specs.Writing.{IsProjectText}
use Rattle.mx_project.proofs.Together.{unwritten_if}
use Rattle.mx_project.proofs.write.write_text.Goals as goal

pub returns-in-None-clause-refused : goal.returns-in-None-clause-refused
returns-in-None-clause-refused g c =
    let are : IsProjectText c.args.text.now c.as_slice-in-None.result.now = rw c.as_slice-in-None.ensures.value c.in-Ok.ensures in
    unwritten_if c.args.text.now c.args.dir.now (g.F.Files.held c.args.files.now) (g.F.Files.held c.write_files.new.files) c.as_slice-in-None.result.now c.write_files.result are c.write_files.ensures.left
