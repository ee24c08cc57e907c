use Rattle.mx_project.specs.Folder.{edit_file}
use Rattle.mx_project.specs.Reading.{EditsSay}
use Rattle.mx_project.proofs.ReadLemmas.{edits_no_fault, quiet_counts}
use Rattle.mx_project.proofs.read.edits_from.Goals as goal

pub returns-in-Ok-clause-counted : goal.returns-in-Ok-clause-counted
returns-in-Ok-clause-counted g c =
    let file = edit_file c.args.file.now.name c.args.file.now.words.now in
    quiet_counts (EditsSay file c.args.world.now c.as_slice.result.now) (edits_no_fault file c.args.world.now c.as_slice.result.now) c.edits_said.new.world (g.F.Files.read_faults c.args.files.now) (g.F.Files.read_faults c.find_file.new.files) c.in-Ok.ensures.counted
    c.edits_said.result c.edits_said.ensures
