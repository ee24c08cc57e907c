use Rattle.mx_whole_edits.proofs.WholeLemmas.{whole}
use Rattle.mx_whole_edits.proofs.whole.whole_edits.Goals as goal

pub returns : goal.returns
returns c = whole
