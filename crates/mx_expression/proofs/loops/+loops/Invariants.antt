use Rattle.std.proofs.Common.{◌≡◌, max, map, drop}
use Rattle.mx_expression.specs.Loops.{greatest, arm_loops, comparison_loops, loops_in, power_part_loops, product_part_loops, sum_part_loops, trailer_loops}
use Rattle.mx_expression.proofs.LoopCounts.{capped}
use Rattle.mx_expression.proofs.loops.+loops.Given as goal

abbrev pub invariant-parts_loops-loop-part : goal.invariant-parts_loops-loop-part
invariant-parts_loops-loop-part l = max l.most (capped (greatest (map loops_in (drop l.part-index l.parts)))) ≡ capped (greatest (map loops_in l.parts))

abbrev pub invariant-arms_loops-loop-arm : goal.invariant-arms_loops-loop-arm
invariant-arms_loops-loop-arm l = max l.most (capped (greatest (map arm_loops (drop l.arm-index l.arms)))) ≡ capped (greatest (map arm_loops l.arms))

abbrev pub invariant-comparisons_loops-loop-comparison : goal.invariant-comparisons_loops-loop-comparison
invariant-comparisons_loops-loop-comparison l = max l.most (capped (greatest (map comparison_loops (drop l.comparison-index l.comparisons)))) ≡ capped (greatest (map comparison_loops l.comparisons))

abbrev pub invariant-sum_loops-loop-part : goal.invariant-sum_loops-loop-part
invariant-sum_loops-loop-part l = max l.most (capped (greatest (map sum_part_loops (drop l.part-index l.parts)))) ≡ capped (greatest (map sum_part_loops l.parts))

abbrev pub invariant-product_loops-loop-part : goal.invariant-product_loops-loop-part
invariant-product_loops-loop-part l = max l.most (capped (greatest (map product_part_loops (drop l.part-index l.parts)))) ≡ capped (greatest (map product_part_loops l.parts))

abbrev pub invariant-power_loops-loop-part : goal.invariant-power_loops-loop-part
invariant-power_loops-loop-part l = max l.most (capped (greatest (map power_part_loops (drop l.part-index l.parts)))) ≡ capped (greatest (map power_part_loops l.parts))

abbrev pub invariant-trailers_loops-loop-trailer : goal.invariant-trailers_loops-loop-trailer
invariant-trailers_loops-loop-trailer l = max l.most (capped (greatest (map trailer_loops (drop l.trailer-index l.trailers)))) ≡ capped (greatest (map trailer_loops l.trailers))
