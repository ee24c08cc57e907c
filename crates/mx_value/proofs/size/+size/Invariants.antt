use Rattle.std.proofs.Common.{◌≡◌, take, min, sum, map, ◌-◌, ◌^◌}
use Rattle.mx_value.specs.Size.{size_of, size_of_segment}
use Rattle.mx_value.proofs.size.+size.Given as goal

abbrev pub invariant-size_of_items-loop-item : goal.invariant-size_of_items-loop-item
invariant-size_of_items-loop-item l = l.size ≡ min (sum (map size_of (take l.item-index l.items))) (2 ^ 64 - 1)

abbrev pub invariant-size_of_segments-loop-segment : goal.invariant-size_of_segments-loop-segment
invariant-size_of_segments-loop-segment l = l.size ≡ min (sum (map size_of_segment (take l.segment-index l.at))) (2 ^ 64 - 1)
