use Rattle.mx_project.proofs.WordLemmas.{refs_edits}
use Rattle.mx_project.proofs.read.edit_refs.Goals as goal

pub edits_from-requires : goal.edits_from-requires
edits_from-requires g c = refs_edits
