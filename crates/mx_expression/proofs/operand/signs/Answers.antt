use Rattle.std.proofs.Common.{rules}
use Rattle.mx_expression.proofs.ManyCode.{part_fails, part_more, parts_end}
use Rattle.mx_expression.proofs.OperandCode.{sign_shorter}
use Rattle.mx_expression.proofs.operand.signs.Goals as goal

pub returns-in_err-sign : goal.returns-in_err-sign
returns-in_err-sign c = part_fails _ _ _ sign_shorter _ _ _ c.loop-found.invariant _ _ _ c.from_residual.ensures.1 (search rules) c.in_err-sign.ensures

pub loop-found-smaller : goal.loop-found-smaller
loop-found-smaller c = sign_shorter _ _ _ c.in_ok-sign.ensures

pub loop-found-preserved : goal.loop-found-preserved
loop-found-preserved c = part_more _ _ _ sign_shorter _ _ _ c.loop-found.invariant _ _ _ (search rules) (search rules) c.in_ok-sign.ensures

pub returns : goal.returns
returns c = parts_end _ _ _ sign_shorter _ _ _ c.loop-found.invariant (search rules)
