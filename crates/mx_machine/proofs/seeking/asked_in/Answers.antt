use Rattle.std.proofs.Common.{sym, subst}
use Rattle.mx_value.specs.declared.node.Node.{Node}
use Rattle.mx_state.specs.Evaluations.{IsAsked}
use Rattle.mx_state.specs.Model.{model_of}
use Rattle.mx_binding.specs.declared.settled.Settled.{Settled}
use Rattle.mx_binding.specs.Settles.{Settles}
use Rattle.mx_machine.proofs.Asked.{asked_bound, asked_no_such, asked_wrong_count}
use Rattle.mx_machine.proofs.seeking.asked_in.Goals as goal

pub returns-in-Bound : goal.returns-in-Bound
returns-in-Bound c = λ held records l.
    asked_bound c.args.world.now c.args.node.now held records c.args.space.now l c.in-Bound.bound
    (subst (λ (to : Settled). Settles (model_of c.args.world.now) c.args.node.now c.args.space.now to) c.in-Bound.is c.in_ok-bound.ensures)

pub returns-in-NoSuch : goal.returns-in-NoSuch
returns-in-NoSuch c = λ held records l.
    subst (λ (n : Node). IsAsked (model_of c.args.world.now) c.args.node.now n) (sym c.in_ok-copy-in-NoSuch.ensures)
    (asked_no_such c.args.world.now c.args.node.now held records c.args.space.now l
    (subst (λ (to : Settled). Settles (model_of c.args.world.now) c.args.node.now c.args.space.now to) c.in-NoSuch.is c.in_ok-bound.ensures))

pub returns-in-WrongCount : goal.returns-in-WrongCount
returns-in-WrongCount c = λ held records l.
    subst (λ (n : Node). IsAsked (model_of c.args.world.now) c.args.node.now n) (sym c.in_ok-copy-in-WrongCount.ensures)
    (asked_wrong_count c.args.world.now c.args.node.now held records c.args.space.now l
    (subst (λ (to : Settled). Settles (model_of c.args.world.now) c.args.node.now c.args.space.now to) c.in-WrongCount.is c.in_ok-bound.ensures))
