use Rattle.std.proofs.Common.{◌≡◌, take}
use Rattle.mx_words.proofs.phrase.whole.Given as goal

abbrev pub invariant-loop-label : goal.invariant-loop-label
invariant-loop-label l = l.names.items ≡ take l.label-index l.label-items
