use Rattle.std.proofs.Common.{◌≡◌, ◌+◌, drop}
use Rattle.mx_words.specs.Texts.{word_length}
use Rattle.mx_words.proofs.text.word_length.Given as goal

abbrev pub invariant-loop-byte : goal.invariant-loop-byte
invariant-loop-byte l = (l.count ≡ l.byte-index) × (l.count + word_length (drop l.byte-index l.text) ≡ word_length l.text)
