use Rattle.std.proofs.Common.{◌≡◌, ◌<◌, true, false, arith}
use Rattle.std.specs.Prelude.{codes, ◌==◌}
use Rattle.std.proofs.lemmas.Bool.Decides.{nat_tests}
use Rattle.mx_print.specs.Values.{value_text, segment_text}
use Rattle.mx_print.proofs.TextLemmas.{separated_first, separated_more, address_step}
use Rattle.mx_print.proofs.nodes.+text.Goals as goal
use Rattle.mx_print.proofs.nodes.+text.Goals.{push_commas-then-i-gt0+in_ok-push, push_commas-else-i-gt0}

pub push_commas-loop-i-preserved : goal.push_commas-loop-i-preserved
push_commas-loop-i-preserved g t c = elim c.if-i-gt0.branch [
  | push_commas-then-i-gt0+in_ok-push w ↦ rw (c.in_ok-push_value.ensures, w.out-is, w.in_ok-push.ensures, c.loop-i.invariant)
      (separated_more value_text (codes ", ") (g.S.Sink.written c.args.out.now) c.args.items.now c.loop-i.i c.index-items-i.result w.if-i-gt0.true c.loop-i-test.true c.index-items-i.is)
  | push_commas-else-i-gt0 w ↦
      let none : c.loop-i.i ≡ 0 = omega (arith, w.if-i-gt0.false) in
      rw (c.in_ok-push_value.ensures, w.out-is, c.loop-i.invariant)
      (separated_first value_text (codes ", ") (g.S.Sink.written c.args.out.now) c.args.items.now c.loop-i.i c.index-items-i.result none c.loop-i-test.true c.index-items-i.is)
]

pub push_address-loop-i-preserved : goal.push_address-loop-i-preserved
push_address-loop-i-preserved g t c =
    let none : (c.loop-i.i == 0) ≡ true → c.loop-i.i ≡ 0 = λ e. grind (arith, nat_tests) in
    let some : (c.loop-i.i == 0) ≡ false → 0 < c.loop-i.i = λ e. grind (arith, nat_tests) in
    rw (c.in_ok-push_segment.ensures, c.loop-i.invariant)
    (address_step segment_text (c.loop-i.i == 0) (g.S.Sink.written c.args.out.now) c.args.at.now c.loop-i.i c.index-at-i.result none some c.loop-i-test.true c.index-at-i.is)
