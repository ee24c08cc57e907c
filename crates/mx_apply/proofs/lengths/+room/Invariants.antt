use Rattle.std.proofs.Common.{◌≡◌, ◌+◌}
use Rattle.mx_print.specs.Values.{value_text, segment_text}
use Rattle.mx_apply.proofs.LengthLemmas.{separated_from, address_from}
use Rattle.mx_apply.proofs.lengths.+room.Given as goal

abbrev pub invariant-room_after_commas-loop-i : goal.invariant-room_after_commas-loop-i
invariant-room_after_commas-loop-i l = separated_from 2 value_text l.items 0 + l.left ≡ l.fn.room + separated_from 2 value_text l.items l.i

abbrev pub invariant-room_after_address-loop-i : goal.invariant-room_after_address-loop-i
invariant-room_after_address-loop-i l = address_from segment_text l.at 0 + l.left ≡ l.fn.room + address_from segment_text l.at l.i
