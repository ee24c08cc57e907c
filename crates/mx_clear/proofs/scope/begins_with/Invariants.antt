use Rattle.std.proofs.Common.{◌≡◌, drop}
use Rattle.mx_clear.specs.Scope.{begins_with}
use Rattle.mx_clear.proofs.scope.begins_with.Given as goal

abbrev pub invariant-loop-place : goal.invariant-loop-place
invariant-loop-place l = begins_with l.at l.address ≡ begins_with (drop l.place l.at) (drop l.place l.address)
