use Rattle.std.proofs.Common.{sym, subst}
use Rattle.mx_value.specs.declared.node.Node.{Node}
use Rattle.mx_state.specs.Evaluations.{IsAsked}
use Rattle.mx_state.specs.Model.{model_of}
use Rattle.mx_state.specs.Proper.{address_of}
use Rattle.mx_binding.specs.declared.walking.Led.{Led}
use Rattle.mx_binding.specs.Walking.{Address, IsLed}
use Rattle.mx_machine.proofs.Asked.{refused_no_such, refused_wrong_count}
use Rattle.mx_machine.proofs.seeking.seek.Goals as goal

pub returns-in-Came : goal.returns-in-Came
returns-in-Came c =
    c.in_ok-asked_in-in-Came.ensures c.args.memo.now.held c.walk_held.new.records
    (subst (λ (to : Led). IsLed (model_of c.args.world.now) c.args.memo.now.held (address_of c.args.node.now) to c.walk_held.new.records) c.in-Came.is
    (subst (λ (at : Address). IsLed (model_of c.args.world.now) c.args.memo.now.held at c.in_ok-space.field-0 c.walk_held.new.records) c.address_of.ensures c.in_ok-space.ensures))

pub returns-in-NoSuch : goal.returns-in-NoSuch
returns-in-NoSuch c =
    subst (λ (n : Node). IsAsked (model_of c.args.world.now) c.args.node.now n) (sym c.in_ok-copy-in-NoSuch.ensures)
    (refused_no_such c.args.world.now c.args.node.now c.args.memo.now.held c.walk_held.new.records
    (subst (λ (to : Led). IsLed (model_of c.args.world.now) c.args.memo.now.held (address_of c.args.node.now) to c.walk_held.new.records) c.in-NoSuch.is
    (subst (λ (at : Address). IsLed (model_of c.args.world.now) c.args.memo.now.held at c.in_ok-space.field-0 c.walk_held.new.records) c.address_of.ensures c.in_ok-space.ensures)))

pub returns-in-WrongCount : goal.returns-in-WrongCount
returns-in-WrongCount c =
    subst (λ (n : Node). IsAsked (model_of c.args.world.now) c.args.node.now n) (sym c.in_ok-copy-in-WrongCount.ensures)
    (refused_wrong_count c.args.world.now c.args.node.now c.args.memo.now.held c.walk_held.new.records
    (subst (λ (to : Led). IsLed (model_of c.args.world.now) c.args.memo.now.held (address_of c.args.node.now) to c.walk_held.new.records) c.in-WrongCount.is
    (subst (λ (at : Address). IsLed (model_of c.args.world.now) c.args.memo.now.held at c.in_ok-space.field-0 c.walk_held.new.records) c.address_of.ensures c.in_ok-space.ensures)))
