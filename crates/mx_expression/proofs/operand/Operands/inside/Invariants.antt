use Rattle.std.proofs.Common.{◌≡◌, length}
use Rattle.mx_expression.specs.ExpressionParsers.{expression}
use Rattle.mx_expression.proofs.ChainCode.{finished}
use Rattle.mx_expression.proofs.operand.Operands.inside.Given as goal

abbrev pub invariant-loop-tokens : goal.invariant-loop-tokens
invariant-loop-tokens g l = finished l.self.levels l.arms l.last l.tokens ≡ expression l.self.levels l.fn.tokens

abbrev pub decreases-loop-tokens : goal.decreases-loop-tokens
decreases-loop-tokens g l = length l.tokens
