use Rattle.mx_edit.proofs.Results.{key_result_decides}
use Rattle.mx_model.specs.Keys.{key_result}
use Rattle.mx_model.proofs.Changes.{differs}
use Rattle.mx_model.proofs.laws.key_laws.Goals as goal

pub returns : goal.returns
returns c = λ before after k. differs _ (key_result_decides (key_result before k) (key_result after k))
