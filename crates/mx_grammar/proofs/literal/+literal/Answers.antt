use Rattle.std.proofs.Common.{arith}
use Rattle.mx_grammar.specs.Reading.{levels}
use Rattle.mx_grammar.specs.LiteralParsers.{literal}
use Rattle.mx_grammar.proofs.LoopCode.{deeper}
use Rattle.mx_grammar.proofs.literal.+literal.Goals as goal

pub returns : goal.returns
unfolding levels
returns t c = rw (deeper (λ n. literal n c.args.tokens.now) c.args.levels (omega arith)) c.rule.ensures
