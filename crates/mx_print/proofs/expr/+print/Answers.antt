use Rattle.std.proofs.Common.{◌≡◌, ◌++◌, ap, ◌∙◌, subst, arith}
use Rattle.std.specs.Prelude.{OnOk}
use Rattle.mx_syntax.specs.declared.expr.Expr.{Expr}
use Rattle.mx_print.specs.Texts.{Text}
use Rattle.mx_print.specs.Expressions.{at, printed, arm_text, comparison_text, sum_part_text, product_part_text, power_part_text, trailer_text}
use Rattle.mx_syntax.proofs.ListLemmas.{flat_more}
use Rattle.mx_print.proofs.ExprLemmas.{all_first, all_more, generator_whole}
use Rattle.mx_print.proofs.expr.+print.Goals as goal
use Rattle.mx_print.proofs.expr.+print.Goals.{push_separated-then-i-gt0+in_ok-push, push_separated-else-i-gt0}

pub push_separated-loop-i-preserved : goal.push_separated-loop-i-preserved
push_separated-loop-i-preserved g t c = elim c.if-i-gt0.branch [
  | push_separated-then-i-gt0+in_ok-push w ↦ rw (c.in_ok-push_at.ensures, w.out-is, w.in_ok-push.ensures, c.loop-i.invariant)
      (all_more c.args.separator.now (g.S.Sink.written c.args.out.now) c.args.least c.args.items.now c.loop-i.i c.index-items-i.result w.if-i-gt0.true c.loop-i-test.true c.index-items-i.is)
  | push_separated-else-i-gt0 w ↦
      let none : c.loop-i.i ≡ 0 = omega (arith, w.if-i-gt0.false) in
      rw (c.in_ok-push_at.ensures, w.out-is, c.loop-i.invariant)
      (all_first c.args.separator.now (g.S.Sink.written c.args.out.now) c.args.least c.args.items.now c.loop-i.i c.index-items-i.result none c.loop-i-test.true c.index-items-i.is)
]

pub push_arms-loop-arm-preserved : goal.push_arms-loop-arm-preserved
push_arms-loop-arm-preserved g t c = rw (c.in_ok-push_arm.ensures, c.loop-arm.invariant) (flat_more arm_text (g.S.Sink.written c.args.out.now) c.args.arms.now c.loop-arm.arm-index c.arm-item.result c.loop-arm-test.true c.arm-item.is)

pub push_comparisons-loop-part-preserved : goal.push_comparisons-loop-part-preserved
push_comparisons-loop-part-preserved g t c = rw (c.in_ok-push_comparison.ensures, c.loop-part.invariant) (flat_more comparison_text (g.S.Sink.written c.args.out.now) c.args.parts.now c.loop-part.part-index c.part-item.result c.loop-part-test.true c.part-item.is)

pub push_sum_parts-loop-part-preserved : goal.push_sum_parts-loop-part-preserved
push_sum_parts-loop-part-preserved g t c = rw (c.in_ok-push_sum_part.ensures, c.loop-part.invariant) (flat_more sum_part_text (g.S.Sink.written c.args.out.now) c.args.parts.now c.loop-part.part-index c.part-item.result c.loop-part-test.true c.part-item.is)

pub push_product_parts-loop-part-preserved : goal.push_product_parts-loop-part-preserved
push_product_parts-loop-part-preserved g t c = rw (c.in_ok-push_product_part.ensures, c.loop-part.invariant) (flat_more product_part_text (g.S.Sink.written c.args.out.now) c.args.parts.now c.loop-part.part-index c.part-item.result c.loop-part-test.true c.part-item.is)

pub push_power_parts-loop-part-preserved : goal.push_power_parts-loop-part-preserved
push_power_parts-loop-part-preserved g t c = rw (c.in_ok-push_power_part.ensures, c.loop-part.invariant) (flat_more power_part_text (g.S.Sink.written c.args.out.now) c.args.parts.now c.loop-part.part-index c.part-item.result c.loop-part-test.true c.part-item.is)

pub push_trailers-loop-trailer-preserved : goal.push_trailers-loop-trailer-preserved
push_trailers-loop-trailer-preserved g t c = rw (c.in_ok-push_trailer.ensures, c.loop-trailer.invariant) (flat_more trailer_text (g.S.Sink.written c.args.out.now) c.args.trailers.now c.loop-trailer.trailer-index c.trailer-item.result c.loop-trailer-test.true c.trailer-item.is)

pub push_args-returns-in_ok-push_at-in-Gen-2 : goal.push_args-returns-in_ok-push_at-in-Gen-2
push_args-returns-in_ok-push_at-in-Gen-2 g t c =
    let form = c.in-Gen in
    subst (λ (u : Text). OnOk c.push_test.result ((g.S.Sink.written c.push_test.new.out) ≡ u))
    (generator_whole c.args.args.now form.element form.name form.over form.test (g.S.Sink.written c.args.out.now) (g.S.Sink.written c.push_at.new.out) (g.S.Sink.written c.push.new.out) (g.S.Sink.written c.push-in-Gen.new.out) (g.S.Sink.written c.push-in-Gen-2.new.out) (g.S.Sink.written c.push_at-in-Gen.new.out) form.is
    (c.in_ok-push_at-in-Gen.ensures ∙ ap (λ (e : Expr). (g.S.Sink.written c.args.out.now) ++ at 0 (printed e)) c.get.ensures)
    c.in_ok-push-in-Gen.ensures
    (c.in_ok-push-in-Gen-2.ensures ∙ ap (λ (n : Text). (g.S.Sink.written c.push.new.out) ++ n) c.as_slice-in-Gen.ensures.value)
    c.in_ok-push-in-Gen-3.ensures
    (c.in_ok-push_at-in-Gen-2.ensures ∙ ap (λ (e : Expr). (g.S.Sink.written c.push-in-Gen-2.new.out) ++ at 1 (printed e)) c.get-in-Gen.ensures))
    c.push_test.ensures
