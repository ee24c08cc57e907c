use Rattle.std.proofs.Common.{◌≡◌, ◌++◌, map, take}
use Rattle.std.specs.List.{filter_map}
use Rattle.mx_model.specs.Records.{SpaceRecord}
use Rattle.mx_project.specs.Folder.{top_name}
use Rattle.mx_project.specs.Writing.{file_of_tree}
use Rattle.mx_project.proofs.project.push_space_files.Given as goal

abbrev pub invariant-loop-place : goal.invariant-loop-place
invariant-loop-place l = l.all.items ≡ l.fn.all.items ++ map (file_of_tree l.text) (filter_map (λ (s : SpaceRecord). top_name s.path) (take l.place l.spaces))
