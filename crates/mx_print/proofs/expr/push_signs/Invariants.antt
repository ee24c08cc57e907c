use Rattle.std.proofs.Common.{◌≡◌, ◌++◌, map, take}
use Rattle.mx_print.specs.Expressions.{sign_byte}
use Rattle.mx_print.proofs.expr.push_signs.Given as goal

abbrev pub invariant-loop-sign : goal.invariant-loop-sign
invariant-loop-sign g l = g.S.Sink.written l.out ≡ g.S.Sink.written l.fn.out ++ map sign_byte (take l.sign-index l.signs)
