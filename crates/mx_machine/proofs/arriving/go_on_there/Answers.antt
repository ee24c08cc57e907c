use Rattle.std.proofs.Common.{◌≡◌, Ok, Err, List, refl, sym, ◌∙◌, ap, subst, inl}
use Rattle.std.proofs.lemmas.Result.{err_from_is_err_and}
use Rattle.mx_value.specs.declared.node.Node.{Node}
use Rattle.mx_value.specs.declared.refusal.EvalRefusal.TheVariants as refusal
use Rattle.mx_edit.specs.declared.reply.Reply.{Reply}
use Rattle.mx_binding.specs.declared.walking.Led.TheVariants as led
use Rattle.mx_state.specs.Evaluations.{IsAsked}
use Rattle.mx_state.specs.Model.{model_of}
use Rattle.mx_frames.specs.Flights.{IsSoundWith}
use Rattle.mx_frames.specs.declared.runs.Frame.{Frame}
use Rattle.mx_frames.proofs.HeldLast.{grown_same}
use Rattle.mx_machine.proofs.Entering.{asked_new, enters_sound, for_asked, over_forgotten, over_gone, over_replied, over_same, over_unmade}
use Rattle.mx_machine.proofs.InOrder.{asks_in_order}
use Rattle.mx_machine.proofs.arriving.go_on_there.Goals as goal

pub returns-in_err-asked_in-clause-over : goal.returns-in_err-asked_in-clause-over
returns-in_err-asked_in-clause-over g c = λ start before kept grown w.
    let p = err_from_is_err_and c.from_residual.result c.from_residual.ensures.1 in
    rw (p.1, p.2)
    (over_unmade c.args.request.now.world.now c.args.request.now.node.now start c.args.memo.now c.args.request.now.limit before c.args.steps.now kept grown (led.Came c.args.arrived.space) c.args.arrived.records w)

pub returns-in_err-node-clause-over : goal.returns-in_err-node-clause-over
returns-in_err-node-clause-over g c = λ start before kept grown w.
    let p = err_from_is_err_and c.from_residual-in_err-node.result c.from_residual-in_err-node.ensures.1 in
    rw (p.1, p.2)
    (over_unmade c.args.request.now.world.now c.args.request.now.node.now start c.args.memo.now c.args.request.now.limit before c.args.steps.now kept grown (led.Came c.args.arrived.space) c.args.arrived.records w)

pub enter-requires-clause-new : goal.enter-requires-clause-new
enter-requires-clause-new g c =
    asked_new c.args.request.now.world.now c.args.request.now.node.now c.in_ok-node.node c.requires.walking.start c.args.memo.now c.args.request.now.limit c.requires.walking.before c.args.steps.now (led.Came c.args.arrived.space) c.args.arrived.records
    (for_asked (model_of c.args.request.now.world.now) c.args.request.now.node.now c.in_ok-node.node
    (subst (λ (b : Node). IsAsked (model_of c.args.request.now.world.now) c.args.request.now.node.now b) (sym c.in_ok-node.ensures) (c.in_ok-asked_in.ensures c.args.memo.now.held c.args.arrived.records (c.requires.walking.walking.stands c.args.request.now.node.now (inl refl)).led))) c.requires.walking.walking

pub returns-in_err-running-clause-over : goal.returns-in_err-running-clause-over
returns-in_err-running-clause-over g c = λ start before kept grown w.
    let p = err_from_is_err_and c.from_residual-in_err-running.result c.from_residual-in_err-running.ensures.1 in
    rw (p.1, p.2)
    (over_same c.args.request.now.world.now c.args.request.now.node.now start c.args.memo.now c.enter.new.memo c.args.request.now.limit _ (Err refusal.NoMemory) c.in_err-running.ensures.held c.in_err-running.ensures.last (over_unmade c.args.request.now.world.now c.args.request.now.node.now start c.args.memo.now c.args.request.now.limit before c.args.steps.now kept grown (led.Came c.args.arrived.space) c.args.arrived.records w))

pub go_on-requires : goal.go_on-requires
go_on-requires g c = record {
  sound = subst (λ (ws : List Frame). IsSoundWith c.enter.new.memo ws c.in_ok-running.running) (sym (c.in_ok-running.ensures.frames ∙ c.new-runs.ensures.frames))
      (enters_sound c.args.request.now.world.now c.args.request.now.node.now c.in_ok-node.node c.requires.walking.start c.args.memo.now c.enter.new.memo c.args.request.now.limit c.requires.walking.before c.args.steps.now c.args.arrived (subst (λ (b : Node). IsAsked (model_of c.args.request.now.world.now) c.args.request.now.node.now b) (sym c.in_ok-node.ensures) (c.in_ok-asked_in.ensures c.args.memo.now.held c.args.arrived.records (c.requires.walking.walking.stands c.args.request.now.node.now (inl refl)).led)) c.requires.walking.walking c.enter.new.runs.stack c.in_ok-running.running c.in_ok-running.ensures.enters c.requires.sound);
}

pub returns-in_err-given-clause-over : goal.returns-in_err-given-clause-over
returns-in_err-given-clause-over g c = λ start before kept grown w.
    let p = err_from_is_err_and c.from_residual-in_err-given.result c.from_residual-in_err-given.ensures.1 in
    rw (p.1, p.2)
    (over_gone c.args.request.now.world.now c.args.request.now.node.now c.in_ok-node.node start c.args.memo.now c.enter.new.memo c.args.request.now.limit before c.args.steps.now c.args.arrived (subst (λ (b : Node). IsAsked (model_of c.args.request.now.world.now) c.args.request.now.node.now b) (sym c.in_ok-node.ensures) (c.in_ok-asked_in.ensures c.args.memo.now.held c.args.arrived.records (w.stands c.args.request.now.node.now (inl refl)).led)) w c.enter.new.runs.stack c.in_ok-running.running c.in_ok-running.ensures.enters
    kept (asks_in_order c.laws.ensures.items_first c.args.request.now.world.now) c.enter.new.runs.frames.items (c.in_ok-running.ensures.frames ∙ c.new-runs.ensures.frames) c.go_on.new.memo c.go_on.new.steps
    (c.in_err-given.ensures.grown start (grown_same start c.args.memo.now c.enter.new.memo c.in_ok-running.ensures.held c.in_ok-running.ensures.last grown)) c.in_err-given.field-0.0 c.in_err-given.ensures.drove)

pub returns-in_err-copy-clause-over : goal.returns-in_err-copy-clause-over
returns-in_err-copy-clause-over g c = λ start before kept grown w.
    let p = err_from_is_err_and c.from_residual-in_err-copy.result c.from_residual-in_err-copy.ensures.1 in
    rw (p.1, p.2)
    (over_forgotten c.args.request.now.world.now c.args.request.now.node.now c.in_ok-node.node start c.args.memo.now c.enter.new.memo c.args.request.now.limit before c.args.steps.now c.args.arrived (subst (λ (b : Node). IsAsked (model_of c.args.request.now.world.now) c.args.request.now.node.now b) (sym c.in_ok-node.ensures) (c.in_ok-asked_in.ensures c.args.memo.now.held c.args.arrived.records (w.stands c.args.request.now.node.now (inl refl)).led)) w c.enter.new.runs.stack c.in_ok-running.running c.in_ok-running.ensures.enters
    kept (asks_in_order c.laws.ensures.items_first c.args.request.now.world.now) c.enter.new.runs.frames.items (c.in_ok-running.ensures.frames ∙ c.new-runs.ensures.frames) c.go_on.new.memo c.go_on.new.steps
    (c.in_ok-given.ensures.grown start (grown_same start c.args.memo.now c.enter.new.memo c.in_ok-running.ensures.held c.in_ok-running.ensures.last grown)) c.in_ok-given.given c.in_ok-given.ensures.drove)

pub returns-clause-over : goal.returns-clause-over
returns-clause-over g c = λ start before kept grown w.
    over_replied c.args.request.now.world.now c.args.request.now.node.now c.in_ok-node.node start c.args.memo.now c.enter.new.memo c.args.request.now.limit before c.args.steps.now c.args.arrived (subst (λ (b : Node). IsAsked (model_of c.args.request.now.world.now) c.args.request.now.node.now b) (sym c.in_ok-node.ensures) (c.in_ok-asked_in.ensures c.args.memo.now.held c.args.arrived.records (w.stands c.args.request.now.node.now (inl refl)).led)) w c.enter.new.runs.stack c.in_ok-running.running c.in_ok-running.ensures.enters
    kept (asks_in_order c.laws.ensures.items_first c.args.request.now.world.now) c.enter.new.runs.frames.items (c.in_ok-running.ensures.frames ∙ c.new-runs.ensures.frames) c.go_on.new.memo c.go_on.new.steps
    (c.in_ok-given.ensures.grown start (grown_same start c.args.memo.now c.enter.new.memo c.in_ok-running.ensures.held c.in_ok-running.ensures.last grown)) c.in_ok-given.given c.in_ok-given.ensures.drove
    c.in_ok-copy.field-0 (c.in_ok-copy.ensures ∙ ap (λ (r : Reply). r.value) c.get.ensures)
