use Rattle.std.proofs.Common.{sym}
use Rattle.mx_model.specs.Records.{SpaceRecord}
use Rattle.mx_project.specs.Folder.{top_name}
use Rattle.mx_project.proofs.Pieces.{named_more}
use Rattle.mx_project.proofs.read.top_names.Goals as goal

pub loop-place-preserved : goal.loop-place-preserved
loop-place-preserved c =
    rw (c.in_ok-push_top.ensures, c.path.ensures, c.get-in-loop-place.ensures, c.loop-place.invariant)
    (named_more (λ (s : SpaceRecord). top_name s.path) c.spaces-spaces.result.now c.loop-place.place c.in-Some.space.now (sym c.in-Some.ensures))
