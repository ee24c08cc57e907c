use Rattle.std.proofs.Common.{arith}
use Rattle.std.specs.Prelude.{codes}
use Rattle.mx_print.specs.Values.{value_text, segment_text}
use Rattle.mx_apply.proofs.LengthLemmas.{separated_length, separated_step, separated_end, address_length, address_next, address_end}
use Rattle.mx_apply.proofs.lengths.+room.Goals as goal

pub room_after_commas-returns-in_err-behind_comma : goal.room_after_commas-returns-in_err-behind_comma
room_after_commas-returns-in_err-behind_comma t c =
    let all = separated_length (codes ", ") value_text c.args.items.now in
    let step = separated_step 2 value_text c.args.items.now c.loop-i.i c.index-items-i.result c.loop-i-test.true c.index-items-i.is in
    rw c.from_residual.ensures (omega (arith, c.in_err-behind_comma.ensures))

pub room_after_commas-returns-in_err-left : goal.room_after_commas-returns-in_err-left
room_after_commas-returns-in_err-left t c =
    let all = separated_length (codes ", ") value_text c.args.items.now in
    let step = separated_step 2 value_text c.args.items.now c.loop-i.i c.index-items-i.result c.loop-i-test.true c.index-items-i.is in
    rw c.from_residual-in_err-left.ensures (omega (arith, c.in_ok-behind_comma.ensures, c.in_err-left.ensures))

pub room_after_commas-loop-i-preserved : goal.room_after_commas-loop-i-preserved
room_after_commas-loop-i-preserved t c =
    let step = separated_step 2 value_text c.args.items.now c.loop-i.i c.index-items-i.result c.loop-i-test.true c.index-items-i.is in
    omega (arith, c.in_ok-behind_comma.ensures, c.in_ok-left.ensures)

pub room_after_commas-returns : goal.room_after_commas-returns
room_after_commas-returns t c =
    let all = separated_length (codes ", ") value_text c.args.items.now in
    let end = separated_end 2 value_text c.args.items.now c.loop-i.i c.loop-i-test.false in
    omega arith

pub room_after_address-returns-in_err-left : goal.room_after_address-returns-in_err-left
room_after_address-returns-in_err-left t c =
    let all = address_length segment_text c.args.at.now in
    let step = address_next segment_text c.args.at.now c.loop-i.i c.index-at-i.result c.loop-i-test.true c.index-at-i.is in
    rw c.from_residual.ensures (omega (arith, c.in_err-left.ensures))

pub room_after_address-loop-i-preserved : goal.room_after_address-loop-i-preserved
room_after_address-loop-i-preserved t c =
    let step = address_next segment_text c.args.at.now c.loop-i.i c.index-at-i.result c.loop-i-test.true c.index-at-i.is in
    omega (arith, c.in_ok-left.ensures)

pub room_after_address-returns : goal.room_after_address-returns
room_after_address-returns t c =
    let all = address_length segment_text c.args.at.now in
    let end = address_end segment_text c.args.at.now c.loop-i.i c.loop-i-test.false in
    omega arith
