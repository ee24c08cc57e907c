use Rattle.std.proofs.Common.{◌≡◌, ◌+◌, drop, false}
use Rattle.mx_lex.specs.Spans.{text_end}
use Rattle.mx_lex.proofs.text.text_end.Given as goal

abbrev pub invariant-loop-i : goal.invariant-loop-i
invariant-loop-i l = text_end l.at l.quote l.escaped (l.at + 1 + l.i) (drop l.i l.inner) ≡ text_end l.at l.quote false (l.at + 1) l.inner
