use Rattle.std.proofs.Common.{◌≡◌, ◌+◌}
use Rattle.mx_model.specs.Walk.{path_text}
use Rattle.mx_apply.proofs.LengthLemmas.{separated_from}
use Rattle.mx_apply.proofs.lengths.room_after_paths.Given as goal

abbrev pub invariant-loop-i : goal.invariant-loop-i
invariant-loop-i l = separated_from 2 path_text l.paths 0 + l.left ≡ l.fn.room + separated_from 2 path_text l.paths l.i
