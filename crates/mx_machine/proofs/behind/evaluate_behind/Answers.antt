use Rattle.std.proofs.Common.{◌-◌}
use Rattle.mx_state.specs.Model.{model_of}
use Rattle.mx_machine.specs.Settings.{evaluation_of}
use Rattle.mx_machine.proofs.OverFor.{evaluates_over, kept_then}
use Rattle.mx_machine.proofs.behind.evaluate_behind.Goals as goal

pub returns-clause-kept : goal.returns-clause-kept
returns-clause-kept g c =
    kept_then c.args.request.now.world.now c.args.request.now.node.now c.args.memo.now c.run_behind-answer.new.memo c.close.new.memo c.args.request.now.limit (c.run_behind-answer.new.steps - c.args.steps.now) c.run_behind-answer.result c.run_behind-answer.ensures.over
    (λ d over. c.close.ensures (model_of c.args.request.now.world.now) c.args.memo.now (evaluation_of d c.args.memo.now c.args.request.now.limit) (c.run_behind-answer.new.steps - c.args.steps.now) c.last_stamp-since.ensures over)

pub returns-clause-evaluates : goal.returns-clause-evaluates
returns-clause-evaluates g c =
    evaluates_over c.args.request.now.world.now c.args.request.now.node.now c.args.memo.now c.run_behind-answer.new.memo c.close.new.memo c.args.request.now.limit (c.run_behind-answer.new.steps - c.args.steps.now) c.run_behind-answer.result c.run_behind-answer.ensures.over
    (λ d over. c.close.ensures (model_of c.args.request.now.world.now) c.args.memo.now (evaluation_of d c.args.memo.now c.args.request.now.limit) (c.run_behind-answer.new.steps - c.args.steps.now) c.last_stamp-since.ensures over)
