use Rattle.mx_rings.specs.Search.{IsSearch, KeepsSeen, IsSeen}
use Rattle.mx_rings.proofs.search.Search.visit.Given as goal

abbrev pub invariant-turns : goal.invariant-turns
invariant-turns l = IsSearch l.graph l.self × KeepsSeen l.fn.self l.self × IsSeen l.self l.fn.x
