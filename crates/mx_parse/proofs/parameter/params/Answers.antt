use Rattle.mx_parse.proofs.ParameterCode.{param_shorter}
use Rattle.mx_parse.proofs.FollowingCode.{turn_fails, turn_shorter, turn_on, turn_out}
use Rattle.mx_parse.proofs.parameter.params.Goals as goal

pub returns-in_err-param_turn : goal.returns-in_err-param_turn
returns-in_err-param_turn c = turn_fails _ (param_shorter c.args.levels) _ _ _ c.loop-found.invariant _ _ _ c.from_residual.ensures.1 c.in_err-param_turn.ensures

pub loop-found-smaller : goal.loop-found-smaller
loop-found-smaller c = turn_shorter _ (param_shorter c.args.levels) _ _ _ _ _ c.if-branch.true c.in_ok-param_turn.ensures

pub loop-found-preserved : goal.loop-found-preserved
loop-found-preserved c = turn_on _ (param_shorter c.args.levels) _ _ _ c.loop-found.invariant _ _ _ c.if-branch.true c.in_ok-param_turn.ensures

pub returns : goal.returns
returns c = turn_out _ (param_shorter c.args.levels) _ _ _ c.loop-found.invariant _ _ _ c.if-branch.false c.in_ok-param_turn.ensures
