use Rattle.std.proofs.Common.{◌≡◌, take}
use Rattle.mx_members.proofs.keys.set_of.Given as goal

abbrev pub invariant-loop-at : goal.invariant-loop-at
invariant-loop-at g l = l.set.keys ≡ take l.at l.keys
