use Rattle.std.proofs.Common.{◌≡◌, ◌+◌, drop}
use Rattle.mx_words.specs.Texts.{name_length}
use Rattle.mx_words.proofs.text.name_length.Given as goal

abbrev pub invariant-loop-byte : goal.invariant-loop-byte
invariant-loop-byte l = (l.count ≡ l.byte-index) × (l.count + name_length (drop l.byte-index l.text) ≡ name_length l.text)
