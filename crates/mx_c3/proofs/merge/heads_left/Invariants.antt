use Rattle.std.proofs.Common.{◌≡◌, take}
use Rattle.mx_c3.specs.Merge.{heads, each_once}
use Rattle.mx_c3.proofs.merge.heads_left.Given as goal

abbrev pub invariant-loop-remaining : goal.invariant-loop-remaining
invariant-loop-remaining l = l.left.items ≡ each_once (heads (take l.remaining-index l.rest))
