use Rattle.mx_project.proofs.WordLemmas.{inputs_edits}
use Rattle.mx_project.proofs.read.edit_inputs.Goals as goal

pub edits_from-requires : goal.edits_from-requires
edits_from-requires g c = inputs_edits
