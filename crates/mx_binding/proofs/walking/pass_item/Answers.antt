use Rattle.std.proofs.Common.{◌≡◌, sym, ap, subst}
use Rattle.std.proofs.lemmas.Result.{IfOk-weaker}
use Rattle.mx_state.specs.Model.{model_of}
use Rattle.mx_walks.specs.Ways.{Leading, AsksAt, told}
use Rattle.mx_binding.specs.declared.walking.Led.TheVariants as led
use Rattle.mx_binding.specs.Walking.{LeadsOn, PassesOn}
use Rattle.mx_binding.proofs.Passing.{led_there}
use Rattle.mx_binding.proofs.walking.pass_item.Goals as goal

pub returns-in-Asks : goal.returns-in-Asks
returns-in-Asks c =
    let from : AsksAt c.in-Asks.item c.in-Asks.rest ≡ told c.args.walked = sym (ap told c.in-Asks.is) in
    IfOk-weaker c.ask_item.result _ _
    (λ past p. subst (λ (to : Leading). PassesOn (model_of c.args.world.now) c.args.memo.now.held to c.args.records.now past c.ask_item.new.records) from p)
    c.ask_item.ensures

pub returns-in-Came : goal.returns-in-Came
returns-in-Came c =
    subst (λ (from : Leading). LeadsOn (model_of c.args.world.now) c.args.memo.now.held from c.args.records.now (led.Came c.in-Came.space) c.args.records.now) (sym (ap told c.in-Came.is))
    (led_there (model_of c.args.world.now) c.args.memo.now.held (led.Came c.in-Came.space) c.args.records.now tt)

pub returns-in-NoSuch : goal.returns-in-NoSuch
returns-in-NoSuch c =
    subst (λ (from : Leading). LeadsOn (model_of c.args.world.now) c.args.memo.now.held from c.args.records.now led.NoSuch c.args.records.now) (sym (ap told c.in-NoSuch.is))
    (led_there (model_of c.args.world.now) c.args.memo.now.held led.NoSuch c.args.records.now tt)

pub returns-in-WrongCount : goal.returns-in-WrongCount
returns-in-WrongCount c =
    subst (λ (from : Leading). LeadsOn (model_of c.args.world.now) c.args.memo.now.held from c.args.records.now led.WrongCount c.args.records.now) (sym (ap told c.in-WrongCount.is))
    (led_there (model_of c.args.world.now) c.args.memo.now.held led.WrongCount c.args.records.now tt)
