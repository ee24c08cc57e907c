use Rattle.std.proofs.Common.{◌≡◌, length}
use Rattle.mx_grammar.specs.Reading.{many, many_turn, turning}
use Rattle.mx_grammar.specs.declared.word.Symbol.TheVariants.{And}
use Rattle.mx_grammar.specs.Words.{is}
use Rattle.mx_expression.specs.ChainParsers.{and_part}
use Rattle.mx_expression.specs.ExpressionParsers.{negations}
use Rattle.mx_expression.proofs.operand.Operands.and_parts.Given as goal

abbrev pub invariant-loop-found : goal.invariant-loop-found
invariant-loop-found g l = turning (many_turn (is And) (and_part (negations l.self.levels))) l.found l.tokens ≡ many (is And) (and_part (negations l.self.levels)) l.fn.tokens

abbrev pub decreases-loop-found : goal.decreases-loop-found
decreases-loop-found g l = length l.tokens
