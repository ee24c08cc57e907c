use Rattle.std.proofs.Common.{subst}
use Rattle.mx_state.specs.Model.{model_of}
use Rattle.mx_machine.specs.Seeking.{IsSought}
use Rattle.mx_machine.specs.declared.seeking.Sought.{Sought}
use Rattle.mx_machine.proofs.Answered.{evaluates_closed}
use Rattle.mx_machine.proofs.machine.run.Goals as goal

pub returns-in-Asked-clause-evaluates : goal.returns-in-Asked-clause-evaluates
returns-in-Asked-clause-evaluates g c =
    evaluates_closed c.args.request.now.world.now c.args.memo.now c.evaluate.new.memo c.args.request.now.limit c.args.request.now.node.now c.in-Asked.node c.evaluate.result _
    (subst (λ (s : Sought). IsSought (model_of c.args.request.now.world.now) c.args.memo.now.held c.args.request.now.node.now s) c.in-Asked.is c.in_ok-node.ensures)
    c.evaluate.ensures.closed
