use Rattle.std.proofs.Common.{◌≡◌, take, false}
use Rattle.std.specs.List.{list_any}
use Rattle.mx_model.specs.Change.{is_within}
use Rattle.mx_apply.proofs.refusals.has_removed.Given as goal

abbrev pub invariant-loop-base : goal.invariant-loop-base
invariant-loop-base l = list_any (is_within l.removed) (take l.base-index l.bases) ≡ false
