use Rattle.std.proofs.Common.{◌≡◌, arith}
use Rattle.std.specs.Prelude.{codes}
use Rattle.mx_print.specs.Statements.{ref_text}
use Rattle.mx_print.proofs.TextLemmas.{separated_first, separated_more}
use Rattle.mx_print.proofs.statement.push_refs.Goals as goal
use Rattle.mx_print.proofs.statement.push_refs.Goals.{then-i-gt0+in_ok-push, else-i-gt0}

pub loop-i-preserved : goal.loop-i-preserved
loop-i-preserved g c = elim c.if-i-gt0.branch [
  | then-i-gt0+in_ok-push w ↦ rw (c.in_ok-push_ref.ensures, w.out-is, w.in_ok-push.ensures, c.loop-i.invariant)
      (separated_more ref_text (codes ", ") (g.S.Sink.written c.args.out.now) c.args.refs.now c.loop-i.i c.index-refs-i.result w.if-i-gt0.true c.loop-i-test.true c.index-refs-i.is)
  | else-i-gt0 w ↦
      let none : c.loop-i.i ≡ 0 = omega (arith, w.if-i-gt0.false) in
      rw (c.in_ok-push_ref.ensures, w.out-is, c.loop-i.invariant)
      (separated_first ref_text (codes ", ") (g.S.Sink.written c.args.out.now) c.args.refs.now c.loop-i.i c.index-refs-i.result none c.loop-i-test.true c.index-refs-i.is)
]
