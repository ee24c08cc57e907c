use Rattle.std.proofs.Common.{◌≡◌, map, take}
use Rattle.mx_model.specs.Records.{SpaceRecord}
use Rattle.mx_model.proofs.beside.more_paths.Given as goal

abbrev pub invariant-loop-place : goal.invariant-loop-place
invariant-loop-place l = l.paths ≡ take l.place (map (λ (s : SpaceRecord). s.path) l.spaces)
