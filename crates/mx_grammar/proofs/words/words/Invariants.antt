use Rattle.std.proofs.Common.{◌≡◌, ◌++◌, drop}
use Rattle.mx_grammar.specs.Spelling.{words_of}
use Rattle.mx_grammar.proofs.words.words.Given as goal

abbrev pub invariant-loop-token : goal.invariant-loop-token
invariant-loop-token l = l.words ++ words_of l.source (drop l.token-index l.tokens) ≡ words_of l.source l.tokens
