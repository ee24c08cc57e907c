use Rattle.std.proofs.Common.{◌≡◌, ◌≤◌, ◌++◌, length}
use Rattle.mx_members.specs.Chunks.{joined, IsFull}
use Rattle.mx_members.proofs.chunks.Chunks.from_vec.Given as goal

abbrev pub invariant-loop-item : goal.invariant-loop-item
invariant-loop-item g l =
    IsFull 64 l.full.items × (length l.last.items ≤ 64) × (joined l.full.items ++ l.last.items ≡ l.yielded)
