use Rattle.std.proofs.Common.{◌≡◌, ◌++◌, map, take}
use Rattle.mx_print.specs.Texts.{commas}
use Rattle.mx_print.specs.Statements.{ref_text}
use Rattle.mx_print.proofs.statement.push_refs.Given as goal

abbrev pub invariant-loop-i : goal.invariant-loop-i
invariant-loop-i g l = g.S.Sink.written l.out ≡ g.S.Sink.written l.fn.out ++ commas (map ref_text (take l.i l.refs))
