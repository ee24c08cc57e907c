use Rattle.std.proofs.Common.{◌-◌, length}
use Rattle.mx_lex.proofs.Loop.{Reads}
use Rattle.mx_lex.proofs.lexer.lex.Given as goal

abbrev pub invariant-loop-at : goal.invariant-loop-at
invariant-loop-at l = Reads l.source l.tokens l.at l.line l.stack.items

abbrev pub decreases-loop-at : goal.decreases-loop-at
decreases-loop-at l = length l.source - l.at
