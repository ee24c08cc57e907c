use Rattle.std.proofs.Common.{◌≡◌, drop}
use Rattle.std.specs.Ordering.{nat_cmp}
use Rattle.std.specs.Cmp.Lexicographic.{slice_cmp}
use Rattle.mx_paths.proofs.families.come_before.Given as goal

-- What is left decides.
abbrev pub invariant-loop-at : goal.invariant-loop-at
invariant-loop-at l = slice_cmp nat_cmp (drop l.at l.a) (drop l.at l.b) ≡ slice_cmp nat_cmp l.a l.b
