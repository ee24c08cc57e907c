use Rattle.std.proofs.Common.{arith}
use Rattle.mx_apply.proofs.ValueLemmas.{itself, path_length}
use Rattle.mx_apply.proofs.LengthLemmas.{separated_step, separated_end}
use Rattle.mx_apply.proofs.lengths.room_after_path.Goals as goal

pub returns-in_err-behind_dot : goal.returns-in_err-behind_dot
returns-in_err-behind_dot c =
    let all = path_length c.args.names.now in
    let step = separated_step 1 itself c.args.names.now c.loop-i.i c.index-names-i.result c.loop-i-test.true c.index-names-i.is in
    rw c.from_residual.ensures (omega (arith, c.in_err-behind_dot.ensures))

pub returns-in_err-left : goal.returns-in_err-left
returns-in_err-left c =
    let all = path_length c.args.names.now in
    let step = separated_step 1 itself c.args.names.now c.loop-i.i c.index-names-i.result c.loop-i-test.true c.index-names-i.is in
    rw c.from_residual-in_err-left.ensures (omega (arith, c.in_ok-behind_dot.ensures, c.in_err-left.ensures))

pub loop-i-preserved : goal.loop-i-preserved
loop-i-preserved c =
    let step = separated_step 1 itself c.args.names.now c.loop-i.i c.index-names-i.result c.loop-i-test.true c.index-names-i.is in
    omega (arith, c.in_ok-behind_dot.ensures, c.in_ok-left.ensures)

pub returns : goal.returns
returns c =
    let all = path_length c.args.names.now in
    let end = separated_end 1 itself c.args.names.now c.loop-i.i c.loop-i-test.false in
    omega arith
