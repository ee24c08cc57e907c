use Rattle.std.proofs.Common.{◌≡◌, ◌++◌, take}
use Rattle.mx_members.proofs.keys.add_keys.Given as goal

abbrev pub invariant-loop-at : goal.invariant-loop-at
invariant-loop-at g l = l.keys.keys ≡ l.initial.keys.keys ++ take l.at l.more
