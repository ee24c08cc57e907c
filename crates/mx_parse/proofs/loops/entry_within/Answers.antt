use Rattle.std.proofs.Common.{rules, ap}
use Rattle.mx_parse.specs.FormulaLimits.{entry_loops}
use Rattle.mx_parse.proofs.ListedLoops.{listed}
use Rattle.mx_parse.proofs.loops.entry_within.Goals as goal

pub returns-in-Refs : goal.returns-in-Refs
returns-in-Refs c = listed _ _ _ _ (ap entry_loops c.in-Refs.is) (search rules)
