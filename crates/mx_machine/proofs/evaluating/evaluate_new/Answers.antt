use Rattle.mx_state.specs.Model.{model_of}
use Rattle.mx_machine.specs.Settings.{evaluation_of}
use Rattle.mx_machine.proofs.evaluating.evaluate_new.Goals as goal

pub returns-clause-closed : goal.returns-clause-closed
returns-clause-closed g c =
    c.close.ensures (model_of c.args.setting.now.world.now) c.args.memo.now (evaluation_of c.args.node c.args.memo.now c.args.setting.now.limit) _
    c.last_stamp-since.ensures c.run_new-answer.ensures.over
