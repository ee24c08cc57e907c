use Rattle.std.proofs.Common.{◌≡◌, take, min, ◌-◌, ◌^◌}
use Rattle.mx_syntax.specs.Heights.{body_height, arms_height}
use Rattle.mx_syntax.proofs.height.+lines.Given as goal

abbrev pub invariant-body_height-loop-stmt : goal.invariant-body_height-loop-stmt
invariant-body_height-loop-stmt l = l.total ≡ min (body_height (take l.stmt-index l.body)) (2 ^ 32 - 1)

abbrev pub invariant-arms_height-loop-arm : goal.invariant-arms_height-loop-arm
invariant-arms_height-loop-arm l = l.total ≡ min (arms_height (take l.arm-index l.arms)) (2 ^ 32 - 1)
