use Rattle.std.proofs.Common.{◌≡◌, ◌==◌, length, drop}
use Rattle.std.specs.Cmp.Lexicographic.{pointwise}
use Rattle.mx_value.proofs.label.same_bytes.Given as goal

-- What is left decides.
abbrev pub invariant-loop-at : goal.invariant-loop-at
invariant-loop-at l = (pointwise ◌==◌ (drop l.at l.a) (drop l.at l.b) ≡ pointwise ◌==◌ l.a l.b) × (length l.a ≡ length l.b)
