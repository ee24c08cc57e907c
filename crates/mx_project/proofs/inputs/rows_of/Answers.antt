use Rattle.std.proofs.Common.{sym}
use Rattle.mx_project.specs.Inputs.{row_of}
use Rattle.mx_project.proofs.Pieces.{map_more}
use Rattle.mx_project.proofs.inputs.rows_of.Goals as goal

pub loop-place-preserved : goal.loop-place-preserved
loop-place-preserved c =
    rw (c.in_ok-push.ensures.items, c.in_ok-row_of.ensures, c.loop-place.invariant)
    (map_more c.args.inputs.now c.loop-place.place (c.in-Some.node.now, c.in-Some.value.now) row_of (sym c.in-Some.ensures))
