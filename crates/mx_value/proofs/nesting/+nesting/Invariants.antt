use Rattle.std.proofs.Common.{◌≡◌, take, min, map, ◌-◌, ◌^◌}
use Rattle.mx_value.specs.Nesting.{greatest, nesting_of}
use Rattle.mx_value.proofs.nesting.+nesting.Given as goal

abbrev pub invariant-greatest_nesting-loop-item : goal.invariant-greatest_nesting-loop-item
invariant-greatest_nesting-loop-item l = l.most ≡ min (greatest (map nesting_of (take l.item-index l.items))) (2 ^ 32 - 1)
