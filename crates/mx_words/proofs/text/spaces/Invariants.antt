use Rattle.std.proofs.Common.{◌≡◌, ◌+◌, drop}
use Rattle.mx_words.specs.Texts.{spaces}
use Rattle.mx_words.proofs.text.spaces.Given as goal

abbrev pub invariant-loop-byte : goal.invariant-loop-byte
invariant-loop-byte l = (l.count ≡ l.byte-index) × (l.count + spaces (drop l.byte-index l.text) ≡ spaces l.text)
