use Rattle.std.proofs.Common.{◌≡◌, take, true}
use Rattle.std.specs.List.{list_all}
use Rattle.mx_round_trip.specs.PlainValues.{is_typed, is_typed_segment}
use Rattle.mx_round_trip.proofs.typed.+typed.Given as goal

abbrev pub invariant-segments_are_typed-loop-segment :
    goal.invariant-segments_are_typed-loop-segment
invariant-segments_are_typed-loop-segment l = list_all is_typed_segment (take l.segment-index l.at) ≡ true

abbrev pub invariant-values_are_typed-loop-item : goal.invariant-values_are_typed-loop-item
invariant-values_are_typed-loop-item l = list_all is_typed (take l.item-index l.items) ≡ true
