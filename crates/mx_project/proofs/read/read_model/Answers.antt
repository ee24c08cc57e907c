use Rattle.mx_project.specs.Reading.{ModelSays}
use Rattle.mx_project.proofs.ReadLemmas.{model_no_fault, quiet_troubles}
use Rattle.mx_project.proofs.read.read_model.Goals as goal

pub returns-in-Ok-clause-counted : goal.returns-in-Ok-clause-counted
returns-in-Ok-clause-counted g c =
    quiet_troubles (ModelSays c.as_slice.result.now) (model_no_fault c.as_slice.result.now) (g.F.Files.read_faults c.args.files.now) (g.F.Files.read_faults c.find_file.new.files) c.in-Ok.ensures.counted
    c.model_said.result c.model_said.ensures.refused
