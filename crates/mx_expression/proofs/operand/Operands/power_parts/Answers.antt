use Rattle.std.proofs.Common.{rules}
use Rattle.mx_expression.proofs.ManyCode.{part_fails, part_more, parts_end}
use Rattle.mx_expression.proofs.OperandCode.{part_shorter}
use Rattle.mx_expression.proofs.operand.Operands.power_parts.Goals as goal

pub returns-in_err-power_part : goal.returns-in_err-power_part
returns-in_err-power_part g c = part_fails _ _ _ (part_shorter c.args.self.now.levels) _ _ _ c.loop-found.invariant _ _ _ c.from_residual.ensures.1 (search rules) c.in_err-power_part.ensures

pub loop-found-smaller : goal.loop-found-smaller
loop-found-smaller g c = part_shorter c.args.self.now.levels _ _ _ c.in_ok-power_part.ensures

pub loop-found-preserved : goal.loop-found-preserved
loop-found-preserved g c = part_more _ _ _ (part_shorter c.args.self.now.levels) _ _ _ c.loop-found.invariant _ _ _ (search rules) (search rules) c.in_ok-power_part.ensures

pub returns : goal.returns
returns g c = parts_end _ _ _ (part_shorter c.args.self.now.levels) _ _ _ c.loop-found.invariant (search rules)
