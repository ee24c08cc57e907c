use Rattle.std.proofs.Common.{◌≡◌, map, take, Ok}
use Rattle.mx_plain.proofs.projection.settled.Given as goal

abbrev pub invariant-loop-number : goal.invariant-loop-number
invariant-loop-number l = take l.number-index l.numbers ≡ map Ok l.settled
