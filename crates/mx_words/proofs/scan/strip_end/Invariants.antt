use Rattle.std.proofs.Common.{◌≡◌, ◌≤◌, drop}
use Rattle.mx_words.specs.Texts.{end_from}
use Rattle.mx_words.proofs.scan.strip_end.Given as goal

abbrev pub invariant-loop-i : goal.invariant-loop-i
invariant-loop-i l = (l.end ≤ l.i) × (end_from l.end l.i (drop l.i l.text) ≡ end_from 0 0 l.text)
