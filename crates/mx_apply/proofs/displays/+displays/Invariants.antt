use Rattle.std.proofs.Common.{◌≡◌, take, false}
use Rattle.std.specs.List.{list_any}
use Rattle.mx_model.specs.Displays.{has_display, arm_display}
use Rattle.mx_apply.proofs.displays.+displays.Given as goal

abbrev pub invariant-any_display-loop-stmt : goal.invariant-any_display-loop-stmt
invariant-any_display-loop-stmt l = list_any has_display (take l.stmt-index l.body) ≡ false

abbrev pub invariant-any_arm-loop-arm : goal.invariant-any_arm-loop-arm
invariant-any_arm-loop-arm l = list_any arm_display (take l.arm-index l.arms) ≡ false
