use Rattle.std.proofs.Common.{List, [], ◌∷◌, ◌++◌, sym, subst}
use Rattle.std.proofs.lemmas.Result.{IfOk-weaker}
use Rattle.mx_state.specs.Model.{model_of}
use Rattle.mx_runs.specs.Runs.{Event, Asked}
use Rattle.mx_walks.specs.Ways.{Leading, told}
use Rattle.mx_binding.specs.Walking.{StandsOn}
use Rattle.mx_binding.proofs.Passing.{stands_behind, led_on}
use Rattle.mx_binding.proofs.walking.walk_further.Goals as goal

pub returns : goal.returns
returns c =
    IfOk-weaker c.pass_held.result _ _
    (λ led past at g.
    let es : List Event = g.waited.events ++ Asked g.item g.reply ∷ [] in
    let s : StandsOn (model_of c.args.world.now) c.args.memo.now.held at es (told c.in_ok-walked.walked) c.args.records.now =
    subst (λ (to : Leading). StandsOn (model_of c.args.world.now) c.args.memo.now.held at es to c.args.records.now) (sym c.in_ok-walked.ensures)
    (stands_behind (model_of c.args.world.now) c.args.memo.now.held at c.args.rest c.args.came c.args.records.now c.requires.memo.right g) in
    led_on (model_of c.args.world.now) c.args.memo.now.held at es (told c.in_ok-walked.walked) c.args.records.now c.pass_held.new.records s led (past at s.stands))
    c.pass_held.ensures
