use Rattle.mx_changes.proofs.GoneSpaces.{AreLeft}
use Rattle.mx_changes.proofs.spaces.without_space.Given as goal

abbrev pub invariant-loop-place : goal.invariant-loop-place
invariant-loop-place l = AreLeft l.text l.path l.place l.spaces l.kinds
