use Rattle.std.proofs.Common.{◌≡◌, length}
use Rattle.mx_grammar.specs.Reading.{many, many_turn, turning}
use Rattle.mx_expression.specs.OperandParsers.{is_sign, one_sign}
use Rattle.mx_expression.proofs.operand.signs.Given as goal

abbrev pub invariant-loop-found : goal.invariant-loop-found
invariant-loop-found l = turning (many_turn is_sign one_sign) l.found l.tokens ≡ many is_sign one_sign l.fn.tokens

abbrev pub decreases-loop-found : goal.decreases-loop-found
decreases-loop-found l = length l.tokens
