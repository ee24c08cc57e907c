use Rattle.std.proofs.Common.{◌≡◌, take, false}
use Rattle.std.specs.List.{list_any}
use Rattle.mx_value.specs.Name.{same_path}
use Rattle.mx_apply.proofs.values.is_among.Given as goal

abbrev pub invariant-loop-other : goal.invariant-loop-other
invariant-loop-other l = list_any (same_path l.path) (take l.other-index l.paths) ≡ false
