use Rattle.std.proofs.Common.{rules}
use Rattle.mx_expression.proofs.ManyCode.{part_fails, part_more, parts_end}
use Rattle.mx_expression.proofs.ChainCode.{comparison_shorter}
use Rattle.mx_expression.proofs.operand.Operands.comparisons.Goals as goal

pub returns-in_err-comparison : goal.returns-in_err-comparison
returns-in_err-comparison g c = part_fails _ _ _ (comparison_shorter c.args.self.now.levels) _ _ _ c.loop-found.invariant _ _ _ c.from_residual.ensures.1 (search rules) c.in_err-comparison.ensures

pub loop-found-smaller : goal.loop-found-smaller
loop-found-smaller g c = comparison_shorter c.args.self.now.levels _ _ _ c.in_ok-comparison.ensures

pub loop-found-preserved : goal.loop-found-preserved
loop-found-preserved g c = part_more _ _ _ (comparison_shorter c.args.self.now.levels) _ _ _ c.loop-found.invariant _ _ _ (search rules) (search rules) c.in_ok-comparison.ensures

pub returns : goal.returns
returns g c = parts_end _ _ _ (comparison_shorter c.args.self.now.levels) _ _ _ c.loop-found.invariant (search rules)
