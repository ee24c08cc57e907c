use Rattle.mx_syntax.specs.Heights.{body_height, arms_height, height, arm_height}
use Rattle.std.proofs.Common.{ℕ, ◌+◌, ◌-◌, ◌^◌, min, take, ap, ◌∙◌}
use Rattle.mx_syntax.proofs.HeightLemmas.{sum_next, capped_sum}
use Rattle.mx_syntax.proofs.height.+lines.Goals as goal

pub arms_height-loop-arm-preserved : goal.arms_height-loop-arm-preserved
arms_height-loop-arm-preserved t c =
    let more = sum_next arm_height c.args.arms.now c.loop-arm.arm-index c.arm-item.result c.loop-arm-test.true c.arm-item.is in
    capped_sum c.saturating_add-total.result (arms_height (take c.loop-arm.arm-index c.args.arms.now)) (arm_height c.arm-item.result) (arms_height (take (c.loop-arm.arm-index + 1) c.args.arms.now))
    (c.saturating_add-total.ensures ∙ ap (λ (n : ℕ). min (n + c.arm_height.result) (2 ^ 32 - 1)) c.loop-arm.invariant ∙ ap (λ (n : ℕ). min (min (arms_height (take c.loop-arm.arm-index c.args.arms.now)) (2 ^ 32 - 1) + n) (2 ^ 32 - 1)) c.arm_height.ensures) more

pub body_height-loop-stmt-preserved : goal.body_height-loop-stmt-preserved
body_height-loop-stmt-preserved t c =
    let more = sum_next height c.args.body.now c.loop-stmt.stmt-index c.stmt-item.result c.loop-stmt-test.true c.stmt-item.is in
    capped_sum c.saturating_add-total.result (body_height (take c.loop-stmt.stmt-index c.args.body.now)) (height c.stmt-item.result) (body_height (take (c.loop-stmt.stmt-index + 1) c.args.body.now))
    (c.saturating_add-total.ensures ∙ ap (λ (n : ℕ). min (n + c.height.result) (2 ^ 32 - 1)) c.loop-stmt.invariant ∙ ap (λ (n : ℕ). min (min (body_height (take c.loop-stmt.stmt-index c.args.body.now)) (2 ^ 32 - 1) + n) (2 ^ 32 - 1)) c.height.ensures) more
