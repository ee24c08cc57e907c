use Rattle.std.proofs.Common.{drop, ◌≤◌}
use Rattle.mx_grammar.specs.Spelling.{open_count}
use Rattle.mx_grammar.proofs.OpenCount.{Keeps}
use Rattle.mx_grammar.proofs.nesting.too_nested.Given as goal

abbrev pub invariant-loop-i : goal.invariant-loop-i
invariant-loop-i l = record { keeps : Keeps 64 l.open_now (drop l.i l.words) l.words; few : open_count l.open_now ≤ 64 }
