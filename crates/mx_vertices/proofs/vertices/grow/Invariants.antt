use Rattle.std.proofs.Common.{◌≡◌, ℕ, length}
use Rattle.mx_vertices.specs.Places.{slot_at}
use Rattle.mx_vertices.proofs.vertices.grow.Given as goal

abbrev pub invariant-loop-at : goal.invariant-loop-at
invariant-loop-at l = record {
  same : (q : ℕ) → slot_at l.slots.items q ≡ slot_at l.fn.slots.items q;
  count : length l.slots.items ≡ l._at;
}
