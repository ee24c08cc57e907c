use Rattle.std.proofs.Common.{◌≡◌, take, None}
use Rattle.mx_members.specs.Chunks.{joined}
use Rattle.mx_members.specs.Places.{place}
use Rattle.mx_members.proofs.chunks.Chunks.place_of.Given as goal

-- No chunk before has it.
abbrev pub invariant-loop-at : goal.invariant-loop-at
invariant-loop-at g l = None ≡ place (g.Q.Equivalent.equivalent l.key) (joined (take l.at l.full))
