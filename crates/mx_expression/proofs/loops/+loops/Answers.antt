use Rattle.mx_expression.specs.Loops.{arm_loops, comparison_loops, loops_in, power_part_loops, product_part_loops, sum_part_loops, trailer_loops}
use Rattle.mx_expression.proofs.LoopCounts.{more}
use Rattle.mx_expression.proofs.loops.+loops.Goals as goal

pub parts_loops-loop-part-preserved : goal.parts_loops-loop-part-preserved
parts_loops-loop-part-preserved t c = rw c.max-most.ensures (more loops_in _ _ _ _ _ _ c.loop-part-test.true c.part-item.is c.loops_in.ensures c.loop-part.invariant)

pub arms_loops-loop-arm-preserved : goal.arms_loops-loop-arm-preserved
arms_loops-loop-arm-preserved t c = rw c.max-most.ensures (more arm_loops _ _ _ _ _ _ c.loop-arm-test.true c.arm-item.is c.arm_loops.ensures c.loop-arm.invariant)

pub comparisons_loops-loop-comparison-preserved : goal.comparisons_loops-loop-comparison-preserved
comparisons_loops-loop-comparison-preserved t c = rw c.max-most.ensures (more comparison_loops _ _ _ _ _ _ c.loop-comparison-test.true c.comparison-item.is c.comparison_loops.ensures c.loop-comparison.invariant)

pub sum_loops-loop-part-preserved : goal.sum_loops-loop-part-preserved
sum_loops-loop-part-preserved t c = rw c.max-most.ensures (more sum_part_loops _ _ _ _ _ _ c.loop-part-test.true c.part-item.is c.sum_part_loops.ensures c.loop-part.invariant)

pub product_loops-loop-part-preserved : goal.product_loops-loop-part-preserved
product_loops-loop-part-preserved t c = rw c.max-most.ensures (more product_part_loops _ _ _ _ _ _ c.loop-part-test.true c.part-item.is c.product_part_loops.ensures c.loop-part.invariant)

pub power_loops-loop-part-preserved : goal.power_loops-loop-part-preserved
power_loops-loop-part-preserved t c = rw c.max-most.ensures (more power_part_loops _ _ _ _ _ _ c.loop-part-test.true c.part-item.is c.power_part_loops.ensures c.loop-part.invariant)

pub trailers_loops-loop-trailer-preserved : goal.trailers_loops-loop-trailer-preserved
trailers_loops-loop-trailer-preserved t c = rw c.max-most.ensures (more trailer_loops _ _ _ _ _ _ c.loop-trailer-test.true c.trailer-item.is c.trailer_loops.ensures c.loop-trailer.invariant)
