use Rattle.std.proofs.Common.{◌≡◌, take}
use Rattle.std.specs.List.{filter_map}
use Rattle.mx_model.specs.Records.{SpaceRecord}
use Rattle.mx_project.specs.Folder.{top_name}
use Rattle.mx_project.proofs.read.top_names.Given as goal

abbrev pub invariant-loop-place : goal.invariant-loop-place
invariant-loop-place l = l.names.items ≡ filter_map (λ (s : SpaceRecord). top_name s.path) (take l.place l.spaces)
