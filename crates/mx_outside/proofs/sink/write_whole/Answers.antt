use Rattle.std.proofs.Common.{arith, length-drop}
use Rattle.std.proofs.lemmas.List.{take_rest}
use Rattle.std.proofs.lemmas.Result.{err_from_is_err_and}
use Rattle.mx_outside.proofs.Bytes.{taken_more, front_more}
use Rattle.mx_outside.proofs.sink.write_whole.Goals as goal

pub returns-in_err-done-clause-err : goal.returns-in_err-done-clause-err
returns-in_err-done-clause-err g c =
    let p = err_from_is_err_and c.from_residual.result c.from_residual.ensures.1 in
    let front = rw take_rest at c.in_err-done.ensures.err in
    rw p.1 (front_more _ _ _ _ _ c.loop-done.invariant.within c.loop-done.invariant.written front)

pub loop-done-preserved : goal.loop-done-preserved
loop-done-preserved g c =
    let written = rw take_rest at c.in_ok-done.ensures.ok.1 in
    record {
      within = omega (arith, c.in_ok-done.ensures.ok.0, length-drop c.loop-done.done c.args.piece.now);
      written = taken_more _ _ _ _ _ _ c.loop-done.invariant.written written;
      kept = omega (arith, c.in_ok-done.ensures.kept);
    }
