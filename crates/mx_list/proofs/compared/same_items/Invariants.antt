use Rattle.std.proofs.Common.{◌≡◌, length, drop}
use Rattle.std.specs.Cmp.Lexicographic.{pointwise}
use Rattle.mx_list.proofs.compared.same_items.Given as goal

-- What is left decides.
abbrev pub invariant-loop-at : goal.invariant-loop-at
invariant-loop-at g l = (pointwise g.T.PartialEq.eq (drop l.at l.a) (drop l.at l.b) ≡ pointwise g.T.PartialEq.eq l.a l.b) × (length l.a ≡ length l.b)
