use Rattle.std.proofs.Common.{◌≡◌, ◌+◌}
use Rattle.mx_apply.proofs.ValueLemmas.{itself}
use Rattle.mx_apply.proofs.LengthLemmas.{separated_from}
use Rattle.mx_apply.proofs.lengths.room_after_path.Given as goal

abbrev pub invariant-loop-i : goal.invariant-loop-i
invariant-loop-i l = separated_from 1 itself l.names 0 + l.left ≡ l.fn.room + separated_from 1 itself l.names l.i
