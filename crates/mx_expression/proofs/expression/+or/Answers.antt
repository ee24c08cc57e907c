use Rattle.std.proofs.Common.{arith}
use Rattle.mx_grammar.proofs.LoopCode.{deeper}
use Rattle.mx_expression.specs.ExpressionParsers.{ors, expression}
use Rattle.mx_expression.proofs.expression.+or.Goals as goal

pub returns : goal.returns
unfolding ors expression
returns t c = rw (deeper (λ n. ors n c.args.tokens.now) c.args.levels (omega arith)) c.either.ensures
