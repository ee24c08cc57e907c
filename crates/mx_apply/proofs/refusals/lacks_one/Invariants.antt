use Rattle.std.proofs.Common.{◌≡◌, take, false, not}
use Rattle.std.specs.List.{list_any}
use Rattle.mx_model.specs.Records.{Path}
use Rattle.mx_model.specs.Paths.{is_defined}
use Rattle.mx_apply.proofs.refusals.lacks_one.Given as goal

abbrev pub invariant-loop-path : goal.invariant-loop-path
invariant-loop-path l = list_any (λ (p : Path). not (is_defined l.text p)) (take l.path-index l.paths) ≡ false
