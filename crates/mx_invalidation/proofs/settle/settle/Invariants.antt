use Rattle.std.proofs.Common.{◌≡◌, length}
use Rattle.mx_invalidation.proofs.Settling.{IsSettling}
use Rattle.mx_invalidation.proofs.settle.settle.Given as goal

abbrev pub invariant-loop-place : goal.invariant-loop-place
invariant-loop-place l = record {
  settling : IsSettling l.fn.slots.items l.slots.items l.list.items l.place;
  length : length l.slots.items ≡ length l.fn.slots.items;
}
