use Rattle.std.proofs.Common.{sym}
use Rattle.mx_model.specs.Records.{SpaceRecord}
use Rattle.mx_project.specs.Lines.{owned_lines}
use Rattle.mx_project.proofs.Pieces.{lines_more}
use Rattle.mx_project.proofs.bytes.push_all_owned.Goals as goal

pub loop-place-preserved : goal.loop-place-preserved
loop-place-preserved c =
    rw (c.in_ok-push_own_references.ensures, c.get-in-loop-place.ensures, c.loop-place.invariant)
    (lines_more c.args.spaces.now c.loop-place.place c.in-Some.space.now (λ (s : SpaceRecord). owned_lines s.path s.references) c.args.out.now.items (sym c.in-Some.ensures))
