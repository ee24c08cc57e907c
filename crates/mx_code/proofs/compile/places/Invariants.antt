use Rattle.std.proofs.Common.{◌≡◌, max, drop, reverse}
use Rattle.mx_code.specs.Statements.{places_in}
use Rattle.mx_code.proofs.compile.places.Given as goal

abbrev pub invariant-loop-i : goal.invariant-loop-i
invariant-loop-i l = l.count ≡ max l.scope (places_in (reverse (drop l.i l.code)))
