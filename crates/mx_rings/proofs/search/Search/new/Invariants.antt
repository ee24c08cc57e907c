use Rattle.std.proofs.Common.{◌≡◌, replicate}
use Rattle.mx_rings.specs.declared.search.Stage.TheVariants.{Unseen}
use Rattle.mx_rings.proofs.SearchLemmas.{none}
use Rattle.mx_rings.proofs.search.Search.new.Given as goal

abbrev pub invariant-loop : goal.invariant-loop
invariant-loop l = (l.stages.items ≡ replicate l.counter Unseen) × (l.passed.items ≡ replicate l.counter none)
