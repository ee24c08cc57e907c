use Rattle.std.proofs.Common.{drop}
use Rattle.mx_c3.specs.Lists.{Has}
use Rattle.mx_rings.proofs.search.Search.from.Given as goal

abbrev pub invariant-loop-place : goal.invariant-loop-place
invariant-loop-place l = Has (drop l.place l.self.way.items) l.x
