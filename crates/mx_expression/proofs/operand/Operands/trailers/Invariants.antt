use Rattle.std.proofs.Common.{◌≡◌, length}
use Rattle.mx_grammar.specs.Reading.{many, many_turn, turning}
use Rattle.mx_expression.specs.OperandParsers.{begins_trailer, trailer}
use Rattle.mx_expression.specs.ExpressionParsers.{ors, expression}
use Rattle.mx_expression.proofs.operand.Operands.trailers.Given as goal

abbrev pub invariant-loop-found : goal.invariant-loop-found
invariant-loop-found g l = turning (many_turn begins_trailer (trailer l.self.levels (expression l.self.levels) (ors l.self.levels))) l.found l.tokens ≡ many begins_trailer (trailer l.self.levels (expression l.self.levels) (ors l.self.levels)) l.fn.tokens

abbrev pub decreases-loop-found : goal.decreases-loop-found
decreases-loop-found g l = length l.tokens
