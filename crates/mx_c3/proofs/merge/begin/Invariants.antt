use Rattle.std.proofs.Common.{◌≡◌, take}
use Rattle.mx_c3.proofs.merge.begin.Given as goal

abbrev pub invariant-loop-list : goal.invariant-loop-list
invariant-loop-list l = l.rest.items ≡ take l.list-index l.lists
