use Rattle.std.proofs.Common.{subst}
use Rattle.std.proofs.lemmas.Result.{err_from_is_err_and}
use Rattle.mx_value.specs.declared.node.Node.{Node}
use Rattle.mx_state.specs.Model.{model_of}
use Rattle.mx_frames.specs.Flights.{Drove}
use Rattle.mx_frames.proofs.step.drive.Goals as goal

pub returns-in_err-running-clause-drove : goal.returns-in_err-running-clause-drove
returns-in_err-running-clause-drove g c = λ q order within a.
    let p = err_from_is_err_and c.from_residual.result c.from_residual.ensures.1 in
    rw (p.1, p.2) (c.in_err-running.ensures.begins q a)

pub returns-clause-drove : goal.returns-clause-drove
returns-clause-drove g c = λ q order within a.
    let f = c.in_ok-running.ensures.begins q a in
    subst (λ (n : Node). Drove (model_of c.args.setting.now.world.now) q c.go_on.new.memo n c.go_on.new.steps c.go_on.result) f.1 (c.go_on.ensures.drove q order within f.0)
