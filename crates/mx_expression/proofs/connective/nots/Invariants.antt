use Rattle.std.proofs.Common.{◌≡◌, length}
use Rattle.mx_grammar.specs.Reading.{expect}
use Rattle.mx_grammar.specs.declared.word.Symbol.TheVariants.{Not}
use Rattle.mx_grammar.specs.Words.{is}
use Rattle.mx_expression.specs.ChainParsers.{gather, one_more, nots}
use Rattle.mx_expression.proofs.connective.nots.Given as goal

abbrev pub invariant-loop-tokens : goal.invariant-loop-tokens
invariant-loop-tokens l = gather (is Not) (expect Not) one_more l.count l.tokens ≡ nots l.fn.tokens

abbrev pub decreases-loop-tokens : goal.decreases-loop-tokens
decreases-loop-tokens l = length l.tokens
