use Rattle.std.proofs.Common.{sym}
use Rattle.mx_project.specs.Lines.{cells_lines}
use Rattle.mx_project.proofs.Pieces.{lines_more}
use Rattle.mx_project.proofs.bytes.push_all_cells.Goals as goal

pub loop-place-preserved : goal.loop-place-preserved
loop-place-preserved c =
    rw (c.in_ok-push_own_cells.ensures, c.loop-place.invariant)
    (lines_more c.args.all.now c.loop-place.place (c.in-Some.name.now, c.in-Some.cells.now) (cells_lines c.args.path.now) c.args.out.now.items (sym c.in-Some.ensures))
