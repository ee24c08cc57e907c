use Rattle.std.proofs.Common.{ap, refl}
use Rattle.mx_meaning.specs.Walks.{entered, walked_from}
use Rattle.mx_lookup.specs.declared.ending.Ending.TheVariants as ending
use Rattle.mx_state.specs.Model.{model_of}
use Rattle.mx_walks.specs.declared.walks.Walked.{Walked}
use Rattle.mx_walks.specs.Ways.{leading_run, told}
use Rattle.mx_node_runs.specs.declared.halt.Waiting.TheVariants as waiting
use Rattle.mx_node_runs.specs.Behind.{behind}
use Rattle.mx_node_runs.proofs.Halting.{asking, ends_unbegun, of_one, of_same}
use Rattle.mx_node_runs.proofs.runs.arrive.Goals as goal

pub returns-in-Came : goal.returns-in-Came
returns-in-Came c =
    of_one c.enter.result c.enter.ensures (λ at h.
    of_same (model_of c.args.world.now) c.args.node.now (leading_run (told c.args.walked) (behind c.args.node.now)) (behind c.args.node.now c.in-Came.space) c.args.seen.now c.enter.new.seen at c.args.stack.now c.enter.new.stack
    (ap (λ (w : Walked). leading_run (told w) (behind c.args.node.now)) c.in-Came.is) h)

pub returns-in-Asks : goal.returns-in-Asks
returns-in-Asks c = λ i. (
  asking (model_of c.args.world.now) c.args.node.now (leading_run (told c.args.walked) (behind c.args.node.now)) c.args.seen.now c.in-Asks.asked (waiting.OnWay c.in-Asks.onward) c.args.stack.now.top
      (λ r. entered r.namespace (λ ns. walked_from c.in-Asks.onward ns (behind c.args.node.now)))
      (ap (λ (w : Walked). leading_run (told w) (behind c.args.node.now)) c.in-Asks.is) (i, λ r. refl),
  refl,
)

pub returns-in-NoSuch : goal.returns-in-NoSuch
returns-in-NoSuch c =
    ends_unbegun (model_of c.args.world.now) c.args.node.now (leading_run (told c.args.walked) (behind c.args.node.now)) c.args.seen.now ending.NoSuch c.args.stack.now
    (ap (λ (w : Walked). leading_run (told w) (behind c.args.node.now)) c.in-NoSuch.is)

pub returns-in-WrongCount : goal.returns-in-WrongCount
returns-in-WrongCount c =
    ends_unbegun (model_of c.args.world.now) c.args.node.now (leading_run (told c.args.walked) (behind c.args.node.now)) c.args.seen.now ending.WrongCount c.args.stack.now
    (ap (λ (w : Walked). leading_run (told w) (behind c.args.node.now)) c.in-WrongCount.is)
