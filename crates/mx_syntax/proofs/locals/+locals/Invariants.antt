use Rattle.std.proofs.Common.{◌≡◌, map, take}
use Rattle.mx_syntax.specs.Lists.{flat}
use Rattle.mx_syntax.specs.Locals.{add_all, bound_by, arm_bound}
use Rattle.mx_syntax.proofs.locals.+locals.Given as goal

abbrev pub invariant-add_body-loop-stmt : goal.invariant-add_body-loop-stmt
invariant-add_body-loop-stmt l = l.names.items ≡ add_all l.fn.names.items (flat (map bound_by (take l.stmt-index l.body)))

abbrev pub invariant-add_arms-loop-arm : goal.invariant-add_arms-loop-arm
invariant-add_arms-loop-arm l = l.names.items ≡ add_all l.fn.names.items (flat (map arm_bound (take l.arm-index l.arms)))
