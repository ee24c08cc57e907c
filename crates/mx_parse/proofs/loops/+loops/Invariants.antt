use Rattle.std.proofs.Common.{◌≡◌, map, drop}
use Rattle.mx_parse.specs.FewLoops.{few}
use Rattle.mx_parse.specs.FormulaLimits.{if_arm_loops, loops}
use Rattle.mx_parse.proofs.loops.+loops.Given as goal

abbrev pub invariant-body_within-loop-statement : goal.invariant-body_within-loop-statement
invariant-body_within-loop-statement l = few l.most (map loops (drop l.statement-index l.body)) ≡ few l.most (map loops l.body)

abbrev pub invariant-arms_within-loop-arm : goal.invariant-arms_within-loop-arm
invariant-arms_within-loop-arm l = few l.most (map if_arm_loops (drop l.arm-index l.arms)) ≡ few l.most (map if_arm_loops l.arms)
