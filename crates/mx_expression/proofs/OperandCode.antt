-- What the loops over operands rely on: each of their parts takes a token.
use Rattle.std.proofs.Common.{ℕ}
use Rattle.mx_grammar.specs.declared.word.Symbol.TheVariants as symbol
use Rattle.mx_grammar.specs.Words.{is}
use Rattle.mx_grammar.proofs.Meets.{Shorter}
use Rattle.mx_grammar.proofs.Lists.{exact_shorter}
use Rattle.mx_grammar.proofs.LoopCode.{Within}
use Rattle.mx_expression.specs.OperandParsers.{begins_trailer, is_sign, one_sign, trailer, power_part}
use Rattle.mx_expression.specs.Expressions.{Ors, Expressions}
use Rattle.mx_expression.specs.ExpressionParsers.{ors, expression}
use Rattle.mx_expression.proofs.OperandAtoms.{between}
use Rattle.mx_expression.proofs.OperandTrailers.{trailing_begins, trailer_rule}
use Rattle.mx_expression.proofs.OperandRules.{sign_begins, sign_rule, tail_begins, power_part_rule}
use Rattle.mx_expression.proofs.ExpressionRules.{brackets}

pub inside_within : (d : ℕ) → Within (expression d)
inside_within d = (brackets d).expr.meets.within

pub sign_shorter : Shorter one_sign
sign_shorter = exact_shorter is_sign (sign_rule {K = between 0 0} {k = 0}).exact sign_begins

pub trailer_shorter : (d : ℕ) → Shorter (trailer d (expression d) (ors d))
trailer_shorter d = exact_shorter begins_trailer (trailer_rule (brackets d)).exact (trailing_begins (Expressions d) (Ors d))

pub part_shorter : (d : ℕ) → Shorter (power_part d (expression d) (ors d))
part_shorter d = exact_shorter (is symbol.Power) (power_part_rule (brackets d)).exact (tail_begins (Expressions d) (Ors d))
