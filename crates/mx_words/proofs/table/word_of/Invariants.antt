use Rattle.std.proofs.Common.{◌≡◌, drop}
use Rattle.mx_words.specs.Words.{word_of}
use Rattle.mx_words.proofs.table.word_of.Given as goal

abbrev pub invariant-loop-word : goal.invariant-loop-word
invariant-loop-word l = word_of (drop l.word-index l.words) l.text ≡ word_of l.words l.text
