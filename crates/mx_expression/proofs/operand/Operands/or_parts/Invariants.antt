use Rattle.std.proofs.Common.{◌≡◌, length}
use Rattle.mx_grammar.specs.Reading.{many, many_turn, turning}
use Rattle.mx_grammar.specs.declared.word.Symbol.TheVariants.{Or}
use Rattle.mx_grammar.specs.Words.{is}
use Rattle.mx_expression.specs.ChainParsers.{or_part}
use Rattle.mx_expression.specs.ExpressionParsers.{conjunctions}
use Rattle.mx_expression.proofs.operand.Operands.or_parts.Given as goal

abbrev pub invariant-loop-found : goal.invariant-loop-found
invariant-loop-found g l = turning (many_turn (is Or) (or_part (conjunctions l.self.levels))) l.found l.tokens ≡ many (is Or) (or_part (conjunctions l.self.levels)) l.fn.tokens

abbrev pub decreases-loop-found : goal.decreases-loop-found
decreases-loop-found g l = length l.tokens
