use Rattle.std.proofs.Common.{sym}
use Rattle.mx_model.specs.Records.{SpaceRecord}
use Rattle.mx_project.specs.Folder.{top_name}
use Rattle.mx_project.specs.Writing.{file_of_tree}
use Rattle.mx_project.proofs.Pieces.{found_more}
use Rattle.mx_project.proofs.project.push_space_files.Goals as goal

pub loop-place-preserved : goal.loop-place-preserved
loop-place-preserved c =
    rw (c.in_ok-push_tree_file.ensures, c.path.ensures, c.get-in-loop-place.ensures, c.loop-place.invariant)
    (found_more (λ (s : SpaceRecord). top_name s.path) (file_of_tree c.args.text.now) c.args.all.now.items c.spaces-spaces.result.now c.loop-place.place c.in-Some.space.now (sym c.in-Some.ensures))
