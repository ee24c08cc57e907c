use Rattle.std.proofs.Common.{◌≡◌, Option, sym, ◌∙◌, ap, subst}
use Rattle.mx_value.specs.declared.namespace.Namespace.{Namespace}
use Rattle.mx_value.specs.declared.read.Read.TheVariants as read
use Rattle.mx_edit.specs.declared.reply.Reply.{Reply}
use Rattle.mx_model.specs.Keys.{key_result}
use Rattle.mx_state.specs.Model.{model_of}
use Rattle.mx_read_set.specs.Seen.{with_read}
use Rattle.mx_walks.specs.Ways.{Leading, resumed_way, told}
use Rattle.mx_binding.specs.declared.walking.Led.TheVariants.{Waits}
use Rattle.mx_binding.specs.Walking.{StandsOn}
use Rattle.mx_binding.proofs.Passing.{stands_past, led_there}
use Rattle.mx_binding.proofs.walking.ask_item.Goals as goal

pub returns : goal.returns
returns c = λ at s.
    let seen : c.ask.new.self.seen ≡ with_read (read.Node c.args.item) c.args.records.now.seen =
    c.in_ok-ask.ensures.seen in
    let came : c.in_ok-came.came ≡ c.in-Some-body.body.now.reply.namespace =
    c.in_ok-came.ensures ∙ ap (λ (r : Reply). r.namespace) c.get.ensures in
    let led : resumed_way (key_result c.args.world.now) c.args.rest c.in-Some-body.body.now.reply.namespace ≡ told c.in_ok-walked.walked =
    ap (λ (x : Option Namespace). resumed_way (key_result c.args.world.now) c.args.rest x) (sym came) ∙ sym c.in_ok-walked.ensures in
    subst (λ (to : Leading). StandsOn (model_of c.args.world.now) c.args.memo.now.held at s.walk.events to c.ask.new.self) led
    (stands_past (model_of c.args.world.now) c.args.memo.now c.requires.memo c.requires.ordered c.args.item c.in-Some.id c.in-Some-body.body.now c.in-Some.ensures.some c.in-Some-body.ensures c.args.records.now c.ask.new.self seen c.in_ok-ask.ensures.asks s.asks at c.args.rest s)

pub returns-in_default : goal.returns-in_default
returns-in_default c = led_there (model_of c.args.world.now) c.args.memo.now.held (Waits c.args.item c.args.rest) c.args.records.now c.in_default.ensures.none
