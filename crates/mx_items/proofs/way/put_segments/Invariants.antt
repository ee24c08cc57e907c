use Rattle.std.proofs.Common.{◌≡◌, ◌++◌, take}
use Rattle.mx_items.proofs.way.put_segments.Given as goal

abbrev pub invariant-loop-segment : goal.invariant-loop-segment
invariant-loop-segment l = l.at.items ≡ l.initial.at.items ++ take l.segment-index l.more
