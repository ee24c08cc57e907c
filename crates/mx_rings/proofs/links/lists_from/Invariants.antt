use Rattle.std.proofs.Common.{◌≡◌, ◌++◌}
use Rattle.mx_rings.proofs.links.lists_from.Given as goal

abbrev pub invariant-loop-spaces : goal.invariant-loop-spaces
invariant-loop-spaces l = l.lists ++ l.spaces-iterator.rest.items ≡ l.fn.links.items
