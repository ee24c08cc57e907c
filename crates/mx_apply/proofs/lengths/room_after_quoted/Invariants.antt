use Rattle.std.proofs.Common.{◌≡◌, ◌+◌}
use Rattle.mx_apply.proofs.LengthLemmas.{escaped_from}
use Rattle.mx_apply.proofs.lengths.room_after_quoted.Given as goal

abbrev pub invariant-loop-byte : goal.invariant-loop-byte
invariant-loop-byte l = 2 + (escaped_from l.text 0 + l.left) ≡ l.fn.room + escaped_from l.text l.byte-index
