use Rattle.std.proofs.Common.{◌≡◌, ◌+◌, ℕ, suc, Ok, Err, inl, inr, refl, sym, subst, arith}
use Rattle.std.proofs.lemmas.Result.{err_from_is_err_and}
use Rattle.mx_memo_laws.proofs.Growing.{grown_from_itself}
use Rattle.mx_state.specs.Model.{model_of}
use Rattle.mx_binding.specs.declared.walking.Led.{Led}
use Rattle.mx_binding.specs.declared.walking.Led.TheVariants as led
use Rattle.mx_machine.specs.Behind.{IsWalking}
use Rattle.mx_machine.proofs.Entering.{over_lost_item, over_no_such, over_unmade, over_wrong_count}
use Rattle.mx_machine.proofs.OnWay.{first_on_way, waiting_has_item}
use Rattle.mx_machine.proofs.behind.run_behind.Goals as goal

pub loop-init : goal.loop-init
loop-init g c = record {
  sound = record {
    ordered = c.requires.kept.ordered;
    held_once = c.requires.kept.memo.right.once;
    begun = c.requires.kept.idle;
    once = tt;
    new = λ x h. absurd h;
    asks = λ w h. absurd h;
  };
  walking = subst (λ (now : ℕ). IsWalking (model_of c.args.request.now.world.now) c.args.request.now.node.now c.args.memo.now c.args.memo.now c.args.request.now.limit c.args.steps.now now (led.Waits c.args.behind.item c.args.behind.rest) c.args.behind.records) (let t = c.tick.ensures in omega (arith, t)) (record {
    item = waiting_has_item c.args.request.now.world.now c.args.request.now.node.now c.args.memo.now.held c.args.behind.records c.args.behind.item c.args.behind.rest c.requires.behind;
    stands = λ d f. record {
      led = c.requires.behind;
      way = first_on_way c.args.request.now.world.now c.args.request.now.node.now c.args.memo.now c.requires.kept c.args.request.now.limit c.requires.limit.least c.args.behind.records c.args.behind.item c.args.behind.rest c.requires.behind d f c.args.steps.now;
    };
  });
  grown = grown_from_itself c.args.memo.now;
  ticks = (let t = c.tick.ensures in omega (arith, t));
}

pub pass_item-requires-clause-walking : goal.pass_item-requires-clause-walking
pass_item-requires-clause-walking g c = record {
  start = c.args.memo.now;
  before = c.args.steps.now;
  walking = (subst (λ (to : Led). IsWalking (model_of c.args.request.now.world.now) c.args.request.now.node.now c.args.memo.now c.loop.memo c.args.request.now.limit c.args.steps.now c.loop.steps to c.loop.walk.records) c.in-Waits.is c.loop.invariant.walking);
}

pub returns-in_err-walk-in-Waits-clause-over : goal.returns-in_err-walk-in-Waits-clause-over
returns-in_err-walk-in-Waits-clause-over g c =
    let p = err_from_is_err_and c.from_residual.result c.from_residual.ensures.1 in
    rw (p.1, p.2)
    (over_lost_item c.args.request.now.world.now c.args.request.now.node.now c.args.memo.now c.pass_item.new.memo c.args.request.now.limit c.args.steps.now c.pass_item.new.steps c.requires.kept (c.in_err-walk-in-Waits.ensures.grown c.args.memo.now c.loop.invariant.grown) c.in_err-walk-in-Waits.field-0.0
    (c.in_err-walk-in-Waits.ensures.goes c.args.memo.now c.args.steps.now
    (subst (λ (to : Led). IsWalking (model_of c.args.request.now.world.now) c.args.request.now.node.now c.args.memo.now c.loop.memo c.args.request.now.limit c.args.steps.now c.loop.steps to c.loop.walk.records) c.in-Waits.is c.loop.invariant.walking)))

pub loop-preserved : goal.loop-preserved
loop-preserved g c = record {
  sound = c.in_ok-walk-in-Waits.ensures.sound;
  walking = c.in_ok-walk-in-Waits.ensures.goes c.args.memo.now c.args.steps.now
      (subst (λ (to : Led). IsWalking (model_of c.args.request.now.world.now) c.args.request.now.node.now c.args.memo.now c.loop.memo c.args.request.now.limit c.args.steps.now c.loop.steps to c.loop.walk.records) c.in-Waits.is c.loop.invariant.walking);
  grown = c.in_ok-walk-in-Waits.ensures.grown c.args.memo.now c.loop.invariant.grown;
  ticks = (let a = c.loop.invariant.ticks in let b = c.in_ok-walk-in-Waits.ensures.ticks in omega (arith, a, b));
}

pub go_on_there-requires-clause-walking : goal.go_on_there-requires-clause-walking
go_on_there-requires-clause-walking g c = record {
  start = c.args.memo.now;
  before = c.args.steps.now;
  walking = (subst (λ (to : Led). IsWalking (model_of c.args.request.now.world.now) c.args.request.now.node.now c.args.memo.now c.loop.memo c.args.request.now.limit c.args.steps.now c.loop.steps to c.loop.walk.records) c.in-Came.is c.loop.invariant.walking);
}

pub returns-in-Came-clause-over : goal.returns-in-Came-clause-over
returns-in-Came-clause-over g c =
    c.go_on_there.ensures.over c.args.memo.now c.args.steps.now c.requires.kept c.loop.invariant.grown
    (subst (λ (to : Led). IsWalking (model_of c.args.request.now.world.now) c.args.request.now.node.now c.args.memo.now c.loop.memo c.args.request.now.limit c.args.steps.now c.loop.steps to c.loop.walk.records) c.in-Came.is c.loop.invariant.walking)

pub returns-in-NoSuch-clause-over : goal.returns-in-NoSuch-clause-over
returns-in-NoSuch-clause-over g c =
    over_no_such c.args.request.now.world.now c.args.request.now.node.now c.args.memo.now c.loop.memo c.args.request.now.limit c.args.steps.now c.loop.steps c.requires.kept c.loop.invariant.grown c.loop.walk.records
    (subst (λ (to : Led). IsWalking (model_of c.args.request.now.world.now) c.args.request.now.node.now c.args.memo.now c.loop.memo c.args.request.now.limit c.args.steps.now c.loop.steps to c.loop.walk.records) c.in-NoSuch.is c.loop.invariant.walking)

pub returns-in-WrongCount-clause-over : goal.returns-in-WrongCount-clause-over
returns-in-WrongCount-clause-over g c =
    over_wrong_count c.args.request.now.world.now c.args.request.now.node.now c.args.memo.now c.loop.memo c.args.request.now.limit c.args.steps.now c.loop.steps c.requires.kept c.loop.invariant.grown c.loop.walk.records
    (subst (λ (to : Led). IsWalking (model_of c.args.request.now.world.now) c.args.request.now.node.now c.args.memo.now c.loop.memo c.args.request.now.limit c.args.steps.now c.loop.steps to c.loop.walk.records) c.in-WrongCount.is c.loop.invariant.walking)

pub returns-clause-over : goal.returns-clause-over
returns-clause-over g c =
    over_unmade c.args.request.now.world.now c.args.request.now.node.now c.args.memo.now c.loop.memo c.args.request.now.limit c.args.steps.now c.loop.steps c.requires.kept c.loop.invariant.grown c.loop.walk.led c.loop.walk.records c.loop.invariant.walking
