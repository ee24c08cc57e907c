use Rattle.std.proofs.Common.{◌-◌, length}
use Rattle.mx_lex.proofs.FrontLoop.{Seeks}
use Rattle.mx_lex.proofs.front.front_of.Given as goal

abbrev pub invariant-loop-at : goal.invariant-loop-at
invariant-loop-at l = Seeks l.source l.mark l.at l.line l.stack.items

abbrev pub decreases-loop-at : goal.decreases-loop-at
decreases-loop-at l = length l.source - l.at
