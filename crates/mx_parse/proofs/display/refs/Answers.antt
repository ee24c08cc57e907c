use Rattle.mx_expression.proofs.ExpressionRules.{expression_within}
use Rattle.mx_parse.proofs.DisplayCode.{ref_shrinks}
use Rattle.mx_parse.proofs.FollowingCode.{turn_fails, turn_shorter, turn_on, turn_out}
use Rattle.mx_parse.proofs.display.refs.Goals as goal

pub returns-in_err-ref_turn : goal.returns-in_err-ref_turn
returns-in_err-ref_turn c = turn_fails _ (ref_shrinks _ (expression_within c.args.levels)) _ _ _ c.loop-found.invariant _ _ _ c.from_residual.ensures.1 c.in_err-ref_turn.ensures

pub loop-found-smaller : goal.loop-found-smaller
loop-found-smaller c = turn_shorter _ (ref_shrinks _ (expression_within c.args.levels)) _ _ _ _ _ c.if-branch.true c.in_ok-ref_turn.ensures

pub loop-found-preserved : goal.loop-found-preserved
loop-found-preserved c = turn_on _ (ref_shrinks _ (expression_within c.args.levels)) _ _ _ c.loop-found.invariant _ _ _ c.if-branch.true c.in_ok-ref_turn.ensures

pub returns : goal.returns
returns c = turn_out _ (ref_shrinks _ (expression_within c.args.levels)) _ _ _ c.loop-found.invariant _ _ _ c.if-branch.false c.in_ok-ref_turn.ensures
