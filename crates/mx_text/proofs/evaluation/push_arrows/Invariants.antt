use Rattle.std.proofs.Common.{◌≡◌, ◌++◌, map, take}
use Rattle.std.specs.Prelude.{codes}
use Rattle.mx_print.specs.Texts.{separated}
use Rattle.mx_print.specs.Values.{node_text}
use Rattle.mx_text.proofs.evaluation.push_arrows.Given as goal

abbrev pub invariant-loop-i : goal.invariant-loop-i
invariant-loop-i l = l.out.items ≡ l.fn.out.items ++ separated (codes " -> ") (map node_text (take l.i l.nodes))
