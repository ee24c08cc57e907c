use Rattle.std.proofs.Common.{◌≡◌, ◌+◌, drop}
use Rattle.mx_words.specs.Texts.{head_length}
use Rattle.mx_words.proofs.text.head_length.Given as goal

abbrev pub invariant-loop-byte : goal.invariant-loop-byte
invariant-loop-byte l = (l.count ≡ l.byte-index) × (l.count + head_length (drop l.byte-index l.text) ≡ head_length l.text)
