use Rattle.mx_rings.proofs.LinkLemmas.{none_above}
use Rattle.mx_rings.proofs.links.none_above.Goals as goal

pub returns : goal.returns
returns c = none_above c.args.text.now c.kinds.result.now c.kinds.ensures
