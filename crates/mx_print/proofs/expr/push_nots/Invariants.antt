use Rattle.std.proofs.Common.{◌≡◌, ◌++◌, replicate}
use Rattle.std.specs.Prelude.{codes}
use Rattle.mx_syntax.specs.Lists.{flat}
use Rattle.mx_print.proofs.expr.push_nots.Given as goal

abbrev pub invariant-loop : goal.invariant-loop
invariant-loop g l = g.S.Sink.written l.out ≡ g.S.Sink.written l.fn.out ++ flat (replicate l.counter (codes "not "))
