use Rattle.mx_changes.proofs.GoneSpaces.{left_all}
use Rattle.mx_changes.proofs.spaces.kinds_left.Goals as goal

pub returns-in-Some : goal.returns-in-Some
returns-in-Some c = left_all c.args.removed.now c.args.at.now c.in-Some.name.now c.args.kinds.now c.kinds_without_child.result c.in-Some.ensures c.kinds_without_child.ensures
