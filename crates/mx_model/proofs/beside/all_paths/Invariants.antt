use Rattle.std.proofs.Common.{◌≡◌, map, take}
use Rattle.mx_model.specs.Records.{SpaceRecord}
use Rattle.mx_model.proofs.beside.all_paths.Given as goal

abbrev pub invariant-loop-place : goal.invariant-loop-place
invariant-loop-place l = l.paths.items ≡ map (λ (s : SpaceRecord). s.path) (take l.place l.spaces)
