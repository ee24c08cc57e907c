use Rattle.std.proofs.Common.{sym}
use Rattle.mx_model.specs.Records.{SpaceRecord}
use Rattle.mx_project.specs.Lines.{bases_lines}
use Rattle.mx_project.proofs.Pieces.{lines_more}
use Rattle.mx_project.proofs.bytes.push_all_bases.Goals as goal

pub loop-place-preserved : goal.loop-place-preserved
loop-place-preserved c =
    rw (c.in_ok-push_own_bases.ensures, c.get-in-loop-place.ensures, c.loop-place.invariant)
    (lines_more c.args.spaces.now c.loop-place.place c.in-Some.space.now (λ (s : SpaceRecord). bases_lines s.path s.bases) c.args.out.now.items (sym c.in-Some.ensures))
