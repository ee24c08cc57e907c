use Rattle.mx_memo.proofs.Restoring.{restores}
use Rattle.mx_memo.proofs.laws.laws.Goals as goal

pub returns : goal.returns
returns c = restores
