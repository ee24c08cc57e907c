use Rattle.std.proofs.Common.{◌≡◌, take}
use Rattle.mx_value.proofs.+copy.Given as goal

abbrev pub invariant-copies::copy_items-loop-item : goal.invariant-copies::copy_items-loop-item
invariant-copies::copy_items-loop-item l = l.copy ≡ take l.item-index l.items
