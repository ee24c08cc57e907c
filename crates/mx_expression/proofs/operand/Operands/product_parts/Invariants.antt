use Rattle.std.proofs.Common.{◌≡◌, length}
use Rattle.mx_grammar.specs.Reading.{many, many_turn, turning}
use Rattle.mx_expression.specs.ChainParsers.{is_product, product_part}
use Rattle.mx_expression.specs.ExpressionParsers.{signed}
use Rattle.mx_expression.proofs.operand.Operands.product_parts.Given as goal

abbrev pub invariant-loop-found : goal.invariant-loop-found
invariant-loop-found g l = turning (many_turn is_product (product_part (signed l.self.levels))) l.found l.tokens ≡ many is_product (product_part (signed l.self.levels)) l.fn.tokens

abbrev pub decreases-loop-found : goal.decreases-loop-found
decreases-loop-found g l = length l.tokens
