use Rattle.std.proofs.Common.{rules}
use Rattle.mx_expression.proofs.ManyCode.{part_fails, part_more, parts_end}
use Rattle.mx_expression.proofs.ChainCode.{or_shorter}
use Rattle.mx_expression.proofs.operand.Operands.or_parts.Goals as goal

pub returns-in_err-or_part : goal.returns-in_err-or_part
returns-in_err-or_part g c = part_fails _ _ _ (or_shorter c.args.self.now.levels) _ _ _ c.loop-found.invariant _ _ _ c.from_residual.ensures.1 (search rules) c.in_err-or_part.ensures

pub loop-found-smaller : goal.loop-found-smaller
loop-found-smaller g c = or_shorter c.args.self.now.levels _ _ _ c.in_ok-or_part.ensures

pub loop-found-preserved : goal.loop-found-preserved
loop-found-preserved g c = part_more _ _ _ (or_shorter c.args.self.now.levels) _ _ _ c.loop-found.invariant _ _ _ (search rules) (search rules) c.in_ok-or_part.ensures

pub returns : goal.returns
returns g c = parts_end _ _ _ (or_shorter c.args.self.now.levels) _ _ _ c.loop-found.invariant (search rules)
