use Rattle.std.proofs.Common.{◌≡◌, length}
use Rattle.mx_grammar.specs.declared.word.Symbol.TheVariants as symbol
use Rattle.mx_grammar.specs.Words.{is}
use Rattle.mx_grammar.specs.Reading.{turning, many_turn}
use Rattle.mx_words.specs.PhraseParsers.{another, others}
use Rattle.mx_words.proofs.phrase.others.Given as goal

abbrev pub invariant-found : goal.invariant-found
invariant-found l = turning (many_turn (is symbol.Comma) another) l.found l.tokens ≡ others l.fn.tokens

abbrev pub decreases-found : goal.decreases-found
decreases-found l = length l.tokens
