use Rattle.std.proofs.Common.{◌<◌, take}
use Rattle.mx_c3.specs.declared.space.SpaceId.{SpaceId}
use Rattle.mx_c3.specs.Lists.{Among}
use Rattle.mx_c3.proofs.counts.bound_of_all.Given as goal

abbrev pub invariant-loop-list : goal.invariant-loop-list
invariant-loop-list l = (x : SpaceId) → Among (take l.list-index l.lists) x → x.0 < l.bound
