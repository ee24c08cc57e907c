use Rattle.std.proofs.Common.{◌≡◌, ◌++◌, drop, false}
use Rattle.mx_grammar.specs.Words as spec
use Rattle.mx_grammar.proofs.words.unescaped.Given as goal

abbrev pub invariant-loop-b : goal.invariant-loop-b
invariant-loop-b l = l.bytes ++ spec.unescaped l.escaped (drop l.b-index l.inner) ≡ spec.unescaped false l.inner
