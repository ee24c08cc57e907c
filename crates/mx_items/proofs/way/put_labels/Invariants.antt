use Rattle.std.proofs.Common.{◌≡◌, ◌++◌, take}
use Rattle.mx_items.proofs.way.put_labels.Given as goal

abbrev pub invariant-loop-name : goal.invariant-loop-name
invariant-loop-name l = l.path.items ≡ l.initial.path.items ++ take l.name-index l.more
