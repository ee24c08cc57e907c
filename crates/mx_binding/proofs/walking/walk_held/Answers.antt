use Rattle.std.proofs.Common.{sym, subst}
use Rattle.std.proofs.lemmas.Result.{IfOk-weaker}
use Rattle.mx_state.specs.Model.{model_of}
use Rattle.mx_walks.specs.Ways.{Leading}
use Rattle.mx_binding.specs.Walking.{Stands}
use Rattle.mx_binding.proofs.Passing.{stands_first}
use Rattle.mx_binding.proofs.walking.walk_held.Goals as goal

pub returns : goal.returns
returns c =
    IfOk-weaker c.pass_held.result _ _
    (λ led past.
    (past c.args.at.now
    (subst (λ (to : Leading). Stands (model_of c.args.world.now) c.args.memo.now.held c.args.at.now to c.args.records.now) (sym c.in_ok-walked.ensures)
    (stands_first (model_of c.args.world.now) c.args.memo.now.held c.args.at.now c.args.records.now c.requires.seen c.requires.asks))).led)
    c.pass_held.ensures
