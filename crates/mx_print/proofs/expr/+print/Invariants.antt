use Rattle.std.proofs.Common.{◌≡◌, ◌++◌, map, take}
use Rattle.mx_syntax.specs.Lists.{flat}
use Rattle.mx_print.specs.Texts.{separated}
use Rattle.mx_print.specs.Expressions.{printed, all_at, arm_text, comparison_text, sum_part_text, product_part_text, power_part_text, trailer_text}
use Rattle.mx_print.proofs.expr.+print.Given as goal

abbrev pub invariant-push_separated-loop-i : goal.invariant-push_separated-loop-i
invariant-push_separated-loop-i g l = g.S.Sink.written l.out ≡ g.S.Sink.written l.fn.out ++ separated l.separator (all_at l.least (map printed (take l.i l.items)))

abbrev pub invariant-push_arms-loop-arm : goal.invariant-push_arms-loop-arm
invariant-push_arms-loop-arm g l = g.S.Sink.written l.out ≡ g.S.Sink.written l.fn.out ++ flat (map arm_text (take l.arm-index l.arms))

abbrev pub invariant-push_comparisons-loop-part : goal.invariant-push_comparisons-loop-part
invariant-push_comparisons-loop-part g l = g.S.Sink.written l.out ≡ g.S.Sink.written l.fn.out ++ flat (map comparison_text (take l.part-index l.parts))

abbrev pub invariant-push_sum_parts-loop-part : goal.invariant-push_sum_parts-loop-part
invariant-push_sum_parts-loop-part g l = g.S.Sink.written l.out ≡ g.S.Sink.written l.fn.out ++ flat (map sum_part_text (take l.part-index l.parts))

abbrev pub invariant-push_product_parts-loop-part : goal.invariant-push_product_parts-loop-part
invariant-push_product_parts-loop-part g l = g.S.Sink.written l.out ≡ g.S.Sink.written l.fn.out ++ flat (map product_part_text (take l.part-index l.parts))

abbrev pub invariant-push_power_parts-loop-part : goal.invariant-push_power_parts-loop-part
invariant-push_power_parts-loop-part g l = g.S.Sink.written l.out ≡ g.S.Sink.written l.fn.out ++ flat (map power_part_text (take l.part-index l.parts))

abbrev pub invariant-push_trailers-loop-trailer : goal.invariant-push_trailers-loop-trailer
invariant-push_trailers-loop-trailer g l = g.S.Sink.written l.out ≡ g.S.Sink.written l.fn.out ++ flat (map trailer_text (take l.trailer-index l.trailers))
