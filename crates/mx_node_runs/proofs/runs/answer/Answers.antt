use Rattle.std.proofs.Common.{subst}
use Rattle.mx_model.specs.Keys.{key_result}
use Rattle.mx_state.specs.Model.{model_of}
use Rattle.mx_node_runs.specs.declared.halt.Waiting.{Waiting}
use Rattle.mx_node_runs.specs.Halts.{Resumes}
use Rattle.mx_node_runs.proofs.Halting.{of_both, of_one}
use Rattle.mx_node_runs.proofs.Walks.{in_code, on_way}
use Rattle.mx_node_runs.proofs.runs.answer.Goals as goal

pub returns-in-OnWay : goal.returns-in-OnWay
returns-in-OnWay c =
    let a = c.args.answered in
    of_one c.arrive.result c.arrive.ensures (λ at h go s.
    on_way (key_result c.args.world.now) a.node.now c.in-OnWay.onward c.in_ok-copy_namespace-in-OnWay.field-0 a.reply.now c.in_ok-walked-in-OnWay.walked go c.args.seen.now c.arrive.new.seen at c.args.stack.now c.arrive.new.stack
    c.in_ok-copy_namespace-in-OnWay.ensures c.in_ok-walked-in-OnWay.ensures h (subst (λ (w : Waiting). Resumes a.node.now w c.args.stack.now.top go) c.in-OnWay.is s))

pub returns-in-InCode : goal.returns-in-InCode
returns-in-InCode c =
    let a = c.args.answered in
    of_both c.proceed.result c.proceed.ensures.halts c.proceed.ensures.below (λ at on below go s.
    in_code (model_of c.args.world.now) a.node.now c.in-InCode.place a.reply.now go c.args.seen.now c.proceed.new.seen at c.args.stack.now c.resume.new.stack c.proceed.new.stack
    c.in_ok-resume-in-InCode.ensures on below (subst (λ (w : Waiting). Resumes a.node.now w c.args.stack.now.top go) c.in-InCode.is s))
