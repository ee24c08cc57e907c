use Rattle.std.proofs.Common.{rules}
use Rattle.mx_expression.proofs.ManyCode.{part_fails, part_more, parts_end}
use Rattle.mx_expression.proofs.ChainCode.{not_shorter}
use Rattle.mx_expression.proofs.connective.nots.Goals as goal

pub returns-in_err-expect : goal.returns-in_err-expect
returns-in_err-expect c = part_fails _ _ _ not_shorter _ _ _ c.loop-tokens.invariant _ _ _ c.from_residual.ensures.1 (search rules) c.in_err-expect.ensures

pub loop-tokens-smaller : goal.loop-tokens-smaller
loop-tokens-smaller c = not_shorter _ _ tt c.in_ok-expect.ensures

pub loop-tokens-preserved : goal.loop-tokens-preserved
loop-tokens-preserved c = part_more _ _ _ not_shorter _ _ _ c.loop-tokens.invariant tt _ _ (search rules) (search rules) c.in_ok-expect.ensures

pub returns : goal.returns
returns c = parts_end _ _ _ not_shorter _ _ _ c.loop-tokens.invariant (search rules)
