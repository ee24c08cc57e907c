use Rattle.std.proofs.lemmas.Result.{IfOk-weaker}
use Rattle.mx_machine.proofs.BoundForms.{form_in_state}
use Rattle.mx_machine.proofs.bound.bound.Goals as goal

pub returns : goal.returns
returns c = IfOk-weaker c.bound.result _ _ (form_in_state c.args.world.now c.args.memo.now c.args.node.now) c.bound.ensures
