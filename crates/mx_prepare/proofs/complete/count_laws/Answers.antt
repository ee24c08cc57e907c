use Rattle.mx_prepare.proofs.CompleteLemmas.{counts_are_those}
use Rattle.mx_prepare.proofs.complete.count_laws.Goals as goal

pub returns : goal.returns
returns c = counts_are_those
