use Rattle.std.proofs.Common.{length, ap, arith}
use Rattle.std.specs.Prelude.{codes}
use Rattle.mx_model.specs.Walk.{path_text}
use Rattle.mx_apply.proofs.LengthLemmas.{separated_length, separated_step, separated_end}
use Rattle.mx_apply.proofs.lengths.room_after_paths.Goals as goal

pub returns-in_err-behind_comma : goal.returns-in_err-behind_comma
returns-in_err-behind_comma c =
    let all = separated_length (codes ", ") path_text c.args.paths.now in
    let step = separated_step 2 path_text c.args.paths.now c.loop-i.i c.index-paths-i.result c.loop-i-test.true c.index-paths-i.is in
    rw c.from_residual.ensures (omega (arith, c.in_err-behind_comma.ensures))

pub returns-in_err-left : goal.returns-in_err-left
returns-in_err-left c =
    let all = separated_length (codes ", ") path_text c.args.paths.now in
    let step = separated_step 2 path_text c.args.paths.now c.loop-i.i c.index-paths-i.result c.loop-i-test.true c.index-paths-i.is in
    let same = ap (λ p. length (path_text p)) c.as_slice.ensures in
    rw c.from_residual-in_err-left.ensures (omega (arith, c.in_ok-behind_comma.ensures, c.in_err-left.ensures))

pub loop-i-preserved : goal.loop-i-preserved
loop-i-preserved c =
    let step = separated_step 2 path_text c.args.paths.now c.loop-i.i c.index-paths-i.result c.loop-i-test.true c.index-paths-i.is in
    let same = ap (λ p. length (path_text p)) c.as_slice.ensures in
    omega (arith, c.in_ok-behind_comma.ensures, c.in_ok-left.ensures)

pub returns : goal.returns
returns c =
    let all = separated_length (codes ", ") path_text c.args.paths.now in
    let end = separated_end 2 path_text c.args.paths.now c.loop-i.i c.loop-i-test.false in
    omega arith
