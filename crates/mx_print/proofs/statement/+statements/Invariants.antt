use Rattle.std.proofs.Common.{◌≡◌, ◌++◌, map, take}
use Rattle.mx_print.specs.Statements.{lines_text, body_lines, if_lines, arm_lines}
use Rattle.mx_print.proofs.statement.+statements.Given as goal

abbrev pub invariant-push_body-loop-stmt : goal.invariant-push_body-loop-stmt
invariant-push_body-loop-stmt g l = g.S.Sink.written l.out ≡ g.S.Sink.written l.fn.out ++ lines_text l.depth (body_lines (take l.stmt-index l.body))

abbrev pub invariant-push_arms-loop-i : goal.invariant-push_arms-loop-i
invariant-push_arms-loop-i g l = g.S.Sink.written l.out ≡ g.S.Sink.written l.fn.out ++ lines_text l.depth (if_lines (map arm_lines (take l.i l.arms)))
