use Rattle.std.proofs.Common.{rules}
use Rattle.mx_expression.proofs.ManyCode.{part_fails, part_more, parts_end}
use Rattle.mx_expression.proofs.ChainCode.{sum_shorter}
use Rattle.mx_expression.proofs.operand.Operands.sum_parts.Goals as goal

pub returns-in_err-sum_part : goal.returns-in_err-sum_part
returns-in_err-sum_part g c = part_fails _ _ _ (sum_shorter c.args.self.now.levels) _ _ _ c.loop-found.invariant _ _ _ c.from_residual.ensures.1 (search rules) c.in_err-sum_part.ensures

pub loop-found-smaller : goal.loop-found-smaller
loop-found-smaller g c = sum_shorter c.args.self.now.levels _ _ _ c.in_ok-sum_part.ensures

pub loop-found-preserved : goal.loop-found-preserved
loop-found-preserved g c = part_more _ _ _ (sum_shorter c.args.self.now.levels) _ _ _ c.loop-found.invariant _ _ _ (search rules) (search rules) c.in_ok-sum_part.ensures

pub returns : goal.returns
returns g c = parts_end _ _ _ (sum_shorter c.args.self.now.levels) _ _ _ c.loop-found.invariant (search rules)
