use Rattle.std.proofs.Common.{◌≡◌, ◌++◌}
use Rattle.mx_print.specs.Statements.{margin}
use Rattle.mx_print.proofs.statement.push_margin.Given as goal

abbrev pub invariant-loop : goal.invariant-loop
invariant-loop g l = g.S.Sink.written l.out ≡ g.S.Sink.written l.fn.out ++ margin l.counter
