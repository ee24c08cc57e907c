use Rattle.std.proofs.Common.{◌≡◌, ◌+◌, drop, option_map}
use Rattle.mx_members.specs.Places.{place}
use Rattle.mx_members.proofs.chunks.place_among.Given as goal

-- What is left decides.
abbrev pub invariant-loop-at : goal.invariant-loop-at
invariant-loop-at g l = place (g.Q.Equivalent.equivalent l.key) l.items ≡ option_map (λ j. l.at + j) (place (g.Q.Equivalent.equivalent l.key) (drop l.at l.items))
