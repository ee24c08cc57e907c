use Rattle.std.proofs.Common.{◌≡◌, drop}
use Rattle.mx_c3.specs.Merge.{next, heads, first_free}
use Rattle.mx_c3.proofs.merge.next_head.Given as goal

abbrev pub invariant-loop-list : goal.invariant-loop-list
invariant-loop-list l = first_free l.rest (heads (drop l.list-index l.rest)) ≡ next l.rest
