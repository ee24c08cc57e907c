use Rattle.std.proofs.Common.{◌≡◌, take}
use Rattle.mx_lookup.proofs.addresses.copy_segments.Given as goal

abbrev pub invariant-loop-segment : goal.invariant-loop-segment
invariant-loop-segment l = l.copy.items ≡ take l.segment-index l.at
