use Rattle.std.proofs.Common.{◌≡◌, map, drop}
use Rattle.mx_parse.specs.FewLoops.{few}
use Rattle.mx_parse.specs.FormulaLimits.{entry_loops}
use Rattle.mx_parse.proofs.loops.entries_within.Given as goal

abbrev pub invariant-loop-entry : goal.invariant-loop-entry
invariant-loop-entry l = few l.most (map entry_loops (drop l.entry-index l.entries)) ≡ few l.most (map entry_loops l.entries)
