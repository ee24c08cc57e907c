use Rattle.std.proofs.Common.{◌≡◌, length}
use Rattle.mx_grammar.specs.declared.word.Symbol.TheVariants as symbol
use Rattle.mx_grammar.specs.Words.{is}
use Rattle.mx_grammar.specs.Reading.{turning, many_turn}
use Rattle.mx_words.specs.HeadParsers.{further, names_further}
use Rattle.mx_words.proofs.head.further.Given as goal

abbrev pub invariant-loop-found : goal.invariant-loop-found
invariant-loop-found l = turning (many_turn (is symbol.Dot) further) l.found l.tokens ≡ names_further l.fn.tokens

abbrev pub decreases-loop-found : goal.decreases-loop-found
decreases-loop-found l = length l.tokens
