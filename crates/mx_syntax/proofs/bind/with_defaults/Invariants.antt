use Rattle.std.proofs.Common.{◌≡◌, ◌++◌, take}
use Rattle.mx_syntax.specs.Binding.{defaults}
use Rattle.mx_syntax.proofs.bind.with_defaults.Given as goal

abbrev pub invariant-loop-param : goal.invariant-loop-param
invariant-loop-param l = l.full ≡ l.fn.args ++ defaults (take l.param-index l.params)
