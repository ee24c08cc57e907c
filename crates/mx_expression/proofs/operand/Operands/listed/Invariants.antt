use Rattle.std.proofs.Common.{◌≡◌, length}
use Rattle.mx_grammar.specs.Reading.{listed}
use Rattle.mx_expression.specs.ExpressionParsers.{expression}
use Rattle.mx_expression.proofs.operand.Operands.listed.Given as goal

abbrev pub invariant-loop-close : goal.invariant-loop-close
invariant-loop-close g l = listed l.close (expression l.self.levels) l.found l.tokens ≡ listed l.close (expression l.self.levels) l.fn.found l.fn.tokens

abbrev pub decreases-loop-close : goal.decreases-loop-close
decreases-loop-close g l = length l.tokens
