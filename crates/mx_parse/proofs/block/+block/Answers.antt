use Rattle.std.proofs.Common.{arith}
use Rattle.mx_grammar.specs.Reading.{levels}
use Rattle.mx_grammar.proofs.LoopCode.{deeper}
use Rattle.mx_parse.specs.Insides.{block_in}
use Rattle.mx_parse.proofs.block.+block.Goals as goal

pub returns : goal.returns
unfolding levels
returns t c = rw (deeper (λ n. block_in c.args.inside n c.args.tokens.now) c.args.levels (omega arith)) c.rule.ensures
