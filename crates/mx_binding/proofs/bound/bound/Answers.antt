use Rattle.std.proofs.Common.{subst}
use Rattle.std.proofs.lemmas.Result.{IfOk-weaker}
use Rattle.mx_state.specs.Model.{model_of}
use Rattle.mx_state.specs.Proper.{address_of}
use Rattle.mx_binding.specs.declared.walking.Led.{Led}
use Rattle.mx_binding.specs.Walking.{Address, IsLed}
use Rattle.mx_binding.proofs.Binding.{form_there, none_there, none_such, none_bound}
use Rattle.mx_binding.proofs.bound.bound.Goals as goal

pub returns-in-Came : goal.returns-in-Came
returns-in-Came c =
    let l =
    subst (λ (to : Led). IsLed (model_of c.args.world.now) c.args.memo.now.held (address_of c.args.node.now) to c.walk_held.new.records) c.in-Came.is
    (subst (λ (at : Address). IsLed (model_of c.args.world.now) c.args.memo.now.held at c.in_ok-space.field-0 c.walk_held.new.records) c.address_of.ensures c.in_ok-space.ensures) in
    IfOk-weaker c.bound_in.result _ _
    (form_there (model_of c.args.world.now) c.args.node.now c.args.memo.now.held c.walk_held.new.records c.in-Came.space l)
    c.bound_in.ensures

pub returns-in-Waits : goal.returns-in-Waits
returns-in-Waits c =
    none_there (model_of c.args.world.now) c.args.node.now c.args.memo.now.held c.walk_held.new.records c.in-Waits.field-0 c.in-Waits.field-1
    (subst (λ (to : Led). IsLed (model_of c.args.world.now) c.args.memo.now.held (address_of c.args.node.now) to c.walk_held.new.records) c.in-Waits.is
    (subst (λ (at : Address). IsLed (model_of c.args.world.now) c.args.memo.now.held at c.in_ok-space.field-0 c.walk_held.new.records) c.address_of.ensures c.in_ok-space.ensures))

pub returns-in-NoSuch : goal.returns-in-NoSuch
returns-in-NoSuch c =
    none_such (model_of c.args.world.now) c.args.node.now c.args.memo.now.held c.walk_held.new.records
    (subst (λ (to : Led). IsLed (model_of c.args.world.now) c.args.memo.now.held (address_of c.args.node.now) to c.walk_held.new.records) c.in-NoSuch.is
    (subst (λ (at : Address). IsLed (model_of c.args.world.now) c.args.memo.now.held at c.in_ok-space.field-0 c.walk_held.new.records) c.address_of.ensures c.in_ok-space.ensures))

pub returns-in-WrongCount : goal.returns-in-WrongCount
returns-in-WrongCount c =
    none_bound (model_of c.args.world.now) c.args.node.now c.args.memo.now.held c.walk_held.new.records
    (subst (λ (to : Led). IsLed (model_of c.args.world.now) c.args.memo.now.held (address_of c.args.node.now) to c.walk_held.new.records) c.in-WrongCount.is
    (subst (λ (at : Address). IsLed (model_of c.args.world.now) c.args.memo.now.held at c.in_ok-space.field-0 c.walk_held.new.records) c.address_of.ensures c.in_ok-space.ensures))
