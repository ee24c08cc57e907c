use Rattle.std.proofs.Common.{subst}
use Rattle.mx_state.specs.Model.{model_of}
use Rattle.mx_walks.specs.Ways.{told}
use Rattle.mx_binding.specs.declared.walking.Passed.{Passed}
use Rattle.mx_binding.specs.Walking.{IsPastOn}
use Rattle.mx_binding.proofs.Passing.{stands_still, stands_on, led_on}
use Rattle.mx_binding.proofs.walking.pass_held.Goals as goal

pub loop-init : goal.loop-init
loop-init c = λ at s. stands_still (model_of c.args.world.now) c.args.memo.now.held at s.walk.events (told c.args.from) c.args.records.now s

pub returns-in-Stops : goal.returns-in-Stops
returns-in-Stops c = λ at s.
    let so_far = c.loop.invariant at s in
    led_on (model_of c.args.world.now) c.args.memo.now.held at s.walk.events (told c.loop.walked) c.loop.records c.pass_item.new.records so_far c.in-Stops.led
    (subst (λ (p : Passed). IsPastOn (model_of c.args.world.now) c.args.memo.now.held at so_far.stands.walk.events p c.pass_item.new.records) c.in-Stops.is
    (c.in_ok-next.ensures at so_far.stands))

pub loop-preserved : goal.loop-preserved
loop-preserved c = λ at s.
    let so_far = c.loop.invariant at s in
    stands_on (model_of c.args.world.now) c.args.memo.now.held at s.walk.events (told c.loop.walked) c.loop.records c.pass_item.new.records so_far (told c.in-On.next)
    (subst (λ (p : Passed). IsPastOn (model_of c.args.world.now) c.args.memo.now.held at so_far.stands.walk.events p c.pass_item.new.records) c.in-On.is
    (c.in_ok-next.ensures at so_far.stands))
