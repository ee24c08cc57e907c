use Rattle.std.proofs.Common.{◌∙◌, map, sym}
use Rattle.mx_parse.specs.FormulaLimits.{loops}
use Rattle.mx_parse.proofs.FewLoops.{le_greatest}
use Rattle.mx_parse.proofs.loops.list_within.Goals as goal

pub returns : goal.returns
returns c = c.body_within.ensures ∙ sym (le_greatest (map loops c.args.body.now) c.args.most)
