use Rattle.mx_project.proofs.WordLemmas.{model_lays}
use Rattle.mx_project.proofs.model.line_law.Goals as goal

pub returns : goal.returns
returns c = model_lays
