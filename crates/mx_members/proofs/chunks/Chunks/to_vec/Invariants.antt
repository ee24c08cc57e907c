use Rattle.std.proofs.Common.{◌≡◌, take}
use Rattle.mx_members.proofs.chunks.Chunks.to_vec.Given as goal

abbrev pub invariant-loop-at : goal.invariant-loop-at
invariant-loop-at g l = l.items.items ≡ take l.at l.self
