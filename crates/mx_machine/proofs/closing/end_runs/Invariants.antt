use Rattle.std.proofs.Common.{◌≡◌, length}
use Rattle.mx_machine.proofs.closing.end_runs.Given as goal

-- what is held stays
abbrev pub invariant-begun : goal.invariant-begun
invariant-begun l = (l.memo.held ≡ l.fn.memo.held) × (l.memo.last ≡ l.fn.memo.last)

abbrev pub decreases-begun : goal.decreases-begun
decreases-begun l = length l.memo.begun
