use Rattle.std.proofs.Common.{◌≡◌, length}
use Rattle.mx_grammar.specs.Reading.{many, many_turn, turning}
use Rattle.mx_expression.specs.ChainParsers.{is_sum, sum_part}
use Rattle.mx_expression.specs.ExpressionParsers.{products}
use Rattle.mx_expression.proofs.operand.Operands.sum_parts.Given as goal

abbrev pub invariant-loop-found : goal.invariant-loop-found
invariant-loop-found g l = turning (many_turn is_sum (sum_part (products l.self.levels))) l.found l.tokens ≡ many is_sum (sum_part (products l.self.levels)) l.fn.tokens

abbrev pub decreases-loop-found : goal.decreases-loop-found
decreases-loop-found g l = length l.tokens
