use Rattle.std.proofs.Common.{◌≡◌, []}
use Rattle.std.specs.Prelude.{replicate}
use Rattle.mx_paths.proofs.families.none_of.Given as goal

abbrev pub invariant-loop : goal.invariant-loop
invariant-loop l = l.families.items ≡ replicate l.counter []
