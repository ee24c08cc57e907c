use Rattle.std.proofs.Common.{◌≡◌, map, drop}
use Rattle.mx_parse.specs.FewLoops.{few}
use Rattle.mx_parse.specs.FormulaLimits.{ref_loops}
use Rattle.mx_parse.proofs.loops.refs_within.Given as goal

abbrev pub invariant-loop-reference : goal.invariant-loop-reference
invariant-loop-reference l = few l.most (map ref_loops (drop l.reference-index l.refs)) ≡ few l.most (map ref_loops l.refs)
