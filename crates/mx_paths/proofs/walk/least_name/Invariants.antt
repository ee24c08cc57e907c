use Rattle.std.proofs.Common.{◌≡◌, [], take}
use Rattle.std.specs.Prelude.{MatchOption}
use Rattle.mx_paths.specs.Siblings.{firsts, IsLeast}
use Rattle.mx_paths.proofs.walk.least_name.Given as goal

abbrev pub invariant-loop-family : goal.invariant-loop-family
invariant-loop-family l = MatchOption l.least (firsts (take l.family-index l.families) ≡ []) (λ name. IsLeast (firsts (take l.family-index l.families)) name.now)
