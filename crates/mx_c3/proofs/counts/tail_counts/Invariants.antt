use Rattle.std.proofs.Common.{take}
use Rattle.mx_c3.specs.Counts.{CountsFirst}
use Rattle.mx_c3.proofs.counts.tail_counts.Given as goal

abbrev pub invariant-loop-list : goal.invariant-loop-list
invariant-loop-list l = CountsFirst l.lists (take l.list-index l.lists) l.counts.items
