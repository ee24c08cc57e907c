use Rattle.std.proofs.Common.{◌≡◌, take}
use Rattle.mx_syntax.specs.Locals.{add_all, names_of}
use Rattle.mx_syntax.proofs.locals.add_params.Given as goal

abbrev pub invariant-loop-param : goal.invariant-loop-param
invariant-loop-param l = l.names.items ≡ add_all l.fn.names.items (names_of (take l.param-index l.params))
