use Rattle.std.proofs.Common.{◌≡◌, length, drop}
use Rattle.mx_value.specs.Name.{same_path}
use Rattle.mx_paths.proofs.walk.same_names.Given as goal

-- What is left decides.
abbrev pub invariant-loop-at : goal.invariant-loop-at
invariant-loop-at l = (same_path (drop l.at l.a) (drop l.at l.b) ≡ same_path l.a l.b) × (length l.a ≡ length l.b)
