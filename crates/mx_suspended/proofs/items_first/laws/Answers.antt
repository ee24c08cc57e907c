use Rattle.mx_suspended.proofs.Nodes.{items_first}
use Rattle.mx_suspended.proofs.Waits.{waits_on_the_way}
use Rattle.mx_suspended.proofs.items_first.laws.Goals as goal

pub returns : goal.returns
returns c = record { items_first = items_first; waits_on_the_way = waits_on_the_way }
