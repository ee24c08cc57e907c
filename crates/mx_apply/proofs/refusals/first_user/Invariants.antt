use Rattle.std.proofs.Common.{◌≡◌, drop}
use Rattle.mx_model.specs.Refused.{first_user}
use Rattle.mx_apply.proofs.refusals.first_user.Given as goal

abbrev pub invariant-loop-place : goal.invariant-loop-place
invariant-loop-place l = first_user l.removed l.spaces ≡ first_user l.removed (drop l.place l.spaces)
