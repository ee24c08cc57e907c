use Rattle.std.proofs.Common.{arith}
use Rattle.mx_apply.proofs.LengthLemmas.{escaped_step, escaped_end, quoted_length}
use Rattle.mx_apply.proofs.lengths.room_after_quoted.Goals as goal

pub returns-in_err-left-2 : goal.returns-in_err-left-2
returns-in_err-left-2 c =
    let all = quoted_length c.args.text.now in
    let step = escaped_step c.args.text.now c.loop-byte.byte-index c.loop-byte-test.true in
    rw c.from_residual-in_err-left-2.ensures (omega (arith, c.in_err-left-2.ensures))

pub loop-byte-preserved : goal.loop-byte-preserved
loop-byte-preserved c =
    let step = escaped_step c.args.text.now c.loop-byte.byte-index c.loop-byte-test.true in
    omega (arith, c.in_ok-left-2.ensures)

pub returns : goal.returns
returns c =
    let all = quoted_length c.args.text.now in
    let end = escaped_end c.args.text.now c.loop-byte.byte-index c.loop-byte-test.false in
    omega arith
