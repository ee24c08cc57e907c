use Rattle.mx_changes.proofs.EditLemmas.{keeps_stays}
use Rattle.mx_changes.proofs.members.with_space.Goals as goal

pub put-requires-clause-stays : goal.put-requires-clause-stays
put-requires-clause-stays c old at = keeps_stays c.args.name.now old c.args.space (c.requires.others old at)
