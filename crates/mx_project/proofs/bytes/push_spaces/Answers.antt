use Rattle.std.proofs.Common.{sym}
use Rattle.mx_model.specs.Records.{SpaceRecord}
use Rattle.mx_project.specs.Lines.{space_line}
use Rattle.mx_project.proofs.Pieces.{line_more}
use Rattle.mx_project.proofs.bytes.push_spaces.Goals as goal

pub loop-place-preserved : goal.loop-place-preserved
loop-place-preserved c =
    rw (c.in_ok-push_space.ensures, c.path.ensures, c.get-in-loop-place.ensures, c.loop-place.invariant)
    (line_more c.args.spaces.now c.loop-place.place c.in-Some.space.now (λ (s : SpaceRecord). space_line s.path) c.args.out.now.items (sym c.in-Some.ensures))
