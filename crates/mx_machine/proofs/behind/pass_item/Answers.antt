use Rattle.std.proofs.Common.{◌≡◌, Ok, Err, Option, refl, sym, ◌∙◌, ap, subst, inl}
use Rattle.std.proofs.lemmas.Result.{err_from_is_err_and}
use Rattle.mx_value.specs.declared.namespace.Namespace.{Namespace}
use Rattle.mx_value.specs.declared.node.Node.{Node}
use Rattle.mx_value.specs.declared.read.Read.TheVariants as read
use Rattle.mx_edit.specs.declared.reply.Reply.{Reply}
use Rattle.mx_vertices.specs.Found.{IsHeldAs}
use Rattle.mx_read_set.specs.Seen.{with_read}
use Rattle.mx_memo_laws.proofs.Growing.{grown_from_itself}
use Rattle.mx_stack.specs.Flight.{Flight}
use Rattle.mx_state.specs.Model.{model_of}
use Rattle.mx_binding.specs.Walking.{LeadsFurther}
use Rattle.mx_machine.proofs.InOrder.{asks_in_order}
use Rattle.mx_machine.proofs.Items.{broken, drives_alone, is_item, right_then, too_deep, unmade, unmade_then, walks_on}
use Rattle.mx_machine.proofs.behind.pass_item.Goals as goal

pub returns-in_err-copy-clause-goes : goal.returns-in_err-copy-clause-goes
returns-in_err-copy-clause-goes g c = λ start before w.
    let p = err_from_is_err_and c.from_residual.result c.from_residual.ensures.1 in
    rw (p.1, p.2)
    (unmade c.args.request.now.world.now c.args.request.now.node.now (asks_in_order c.laws.ensures.items_first c.args.request.now.world.now) c.laws.ensures.waits_on_the_way start c.args.memo.now c.args.request.now.limit before c.args.steps.now c.args.behind.records c.args.behind.item c.args.behind.rest w)

pub returns-then-request-le1-clause-goes : goal.returns-then-request-le1-clause-goes
returns-then-request-le1-clause-goes g c = λ start before w.
    too_deep c.args.request.now.world.now c.args.request.now.node.now (asks_in_order c.laws.ensures.items_first c.args.request.now.world.now) c.laws.ensures.waits_on_the_way start c.args.memo.now c.args.request.now.limit before c.args.steps.now c.args.behind.records c.args.behind.item c.args.behind.rest w
    c.if-request-le1.true c.in_ok-copy.field-0 (c.in_ok-copy.ensures ∙ c.get.ensures)

pub drive-requires-clause-new : goal.drive-requires-clause-new
drive-requires-clause-new g c = (c.requires.walking.walking.stands c.args.request.now.node.now (inl refl)).led.waits

pub returns-in_err-given-clause-goes : goal.returns-in_err-given-clause-goes
returns-in_err-given-clause-goes g c = λ start before w.
    let p = err_from_is_err_and c.from_residual-in_err-given.result c.from_residual-in_err-given.ensures.1 in
    rw (p.1, p.2)
    (broken c.args.request.now.world.now c.args.request.now.node.now (asks_in_order c.laws.ensures.items_first c.args.request.now.world.now) c.laws.ensures.waits_on_the_way start c.args.memo.now c.args.request.now.limit before c.args.steps.now c.args.behind.records c.args.behind.item c.args.behind.rest w
    c.if-request-le1.false c.new-runs.result.stack (ap (λ (x : Flight). x.top) c.new-runs.ensures.stack) c.drive.new.memo c.drive.new.steps c.in_err-given.field-0.0
    (drives_alone c.args.request.now.world.now c.args.memo.now c.new-runs.result.stack c.new-runs.result.frames.items c.args.behind.item c.args.request.now.limit c.args.steps.now c.drive.new.memo c.drive.new.steps (Err c.in_err-given.field-0.0) c.new-runs.ensures.frames (asks_in_order c.laws.ensures.items_first c.args.request.now.world.now) c.in_err-given.ensures.drove))

pub returns-in_err-ask-clause-goes : goal.returns-in_err-ask-clause-goes
returns-in_err-ask-clause-goes g c = λ start before w.
    let p = err_from_is_err_and c.from_residual-in_err-ask.result c.from_residual-in_err-ask.ensures.1 in
    rw (p.1, p.2)
    (unmade_then c.args.request.now.world.now c.args.request.now.node.now (asks_in_order c.laws.ensures.items_first c.args.request.now.world.now) c.laws.ensures.waits_on_the_way start c.args.memo.now c.args.request.now.limit before c.args.steps.now c.args.behind.records c.args.behind.item c.args.behind.rest w
    c.if-request-le1.false c.new-runs.result.stack (ap (λ (x : Flight). x.top) c.new-runs.ensures.stack) c.drive.new.memo c.drive.new.steps c.in_ok-given.given
    (drives_alone c.args.request.now.world.now c.args.memo.now c.new-runs.result.stack c.new-runs.result.frames.items c.args.behind.item c.args.request.now.limit c.args.steps.now c.drive.new.memo c.drive.new.steps (Ok c.in_ok-given.given) c.new-runs.ensures.frames (asks_in_order c.laws.ensures.items_first c.args.request.now.world.now) c.in_ok-given.ensures.drove))

pub returns-in_err-came-clause-goes : goal.returns-in_err-came-clause-goes
returns-in_err-came-clause-goes g c = λ start before w.
    let p = err_from_is_err_and c.from_residual-in_err-came.result c.from_residual-in_err-came.ensures.1 in
    rw (p.1, p.2)
    (unmade_then c.args.request.now.world.now c.args.request.now.node.now (asks_in_order c.laws.ensures.items_first c.args.request.now.world.now) c.laws.ensures.waits_on_the_way start c.args.memo.now c.args.request.now.limit before c.args.steps.now c.args.behind.records c.args.behind.item c.args.behind.rest w
    c.if-request-le1.false c.new-runs.result.stack (ap (λ (x : Flight). x.top) c.new-runs.ensures.stack) c.drive.new.memo c.drive.new.steps c.in_ok-given.given
    (drives_alone c.args.request.now.world.now c.args.memo.now c.new-runs.result.stack c.new-runs.result.frames.items c.args.behind.item c.args.request.now.limit c.args.steps.now c.drive.new.memo c.drive.new.steps (Ok c.in_ok-given.given) c.new-runs.ensures.frames (asks_in_order c.laws.ensures.items_first c.args.request.now.world.now) c.in_ok-given.ensures.drove))

pub returns-in_err-led-clause-goes : goal.returns-in_err-led-clause-goes
returns-in_err-led-clause-goes g c = λ start before w.
    let p = err_from_is_err_and c.from_residual-in_err-led.result c.from_residual-in_err-led.ensures.1 in
    rw (p.1, p.2)
    (unmade_then c.args.request.now.world.now c.args.request.now.node.now (asks_in_order c.laws.ensures.items_first c.args.request.now.world.now) c.laws.ensures.waits_on_the_way start c.args.memo.now c.args.request.now.limit before c.args.steps.now c.args.behind.records c.args.behind.item c.args.behind.rest w
    c.if-request-le1.false c.new-runs.result.stack (ap (λ (x : Flight). x.top) c.new-runs.ensures.stack) c.drive.new.memo c.drive.new.steps c.in_ok-given.given
    (drives_alone c.args.request.now.world.now c.args.memo.now c.new-runs.result.stack c.new-runs.result.frames.items c.args.behind.item c.args.request.now.limit c.args.steps.now c.drive.new.memo c.drive.new.steps (Ok c.in_ok-given.given) c.new-runs.ensures.frames (asks_in_order c.laws.ensures.items_first c.args.request.now.world.now) c.in_ok-given.ensures.drove))

pub walk_further-requires-clause-memo : goal.walk_further-requires-clause-memo
walk_further-requires-clause-memo g c =
    right_then c.args.request.now.world.now c.args.request.now.node.now (asks_in_order c.laws.ensures.items_first c.args.request.now.world.now) c.laws.ensures.waits_on_the_way c.requires.walking.start c.args.memo.now c.args.request.now.limit c.requires.walking.before c.args.steps.now c.args.behind.records c.args.behind.item c.args.behind.rest c.requires.walking.walking
    c.if-request-le1.false c.new-runs.result.stack (ap (λ (x : Flight). x.top) c.new-runs.ensures.stack) c.drive.new.memo c.drive.new.steps c.in_ok-given.given
    (drives_alone c.args.request.now.world.now c.args.memo.now c.new-runs.result.stack c.new-runs.result.frames.items c.args.behind.item c.args.request.now.limit c.args.steps.now c.drive.new.memo c.drive.new.steps (Ok c.in_ok-given.given) c.new-runs.ensures.frames (asks_in_order c.laws.ensures.items_first c.args.request.now.world.now) c.in_ok-given.ensures.drove)

pub returns-clause-goes : goal.returns-clause-goes
returns-clause-goes g c = λ start before w.
    let item : c.in_ok-given.given.node ≡ c.args.behind.item =
    is_item c.args.request.now.world.now c.args.request.now.node.now (asks_in_order c.laws.ensures.items_first c.args.request.now.world.now) c.laws.ensures.waits_on_the_way start c.args.memo.now c.args.request.now.limit before c.args.steps.now c.args.behind.records c.args.behind.item c.args.behind.rest w
    c.if-request-le1.false c.new-runs.result.stack (ap (λ (x : Flight). x.top) c.new-runs.ensures.stack) c.drive.new.memo c.drive.new.steps c.in_ok-given.given
    (drives_alone c.args.request.now.world.now c.args.memo.now c.new-runs.result.stack c.new-runs.result.frames.items c.args.behind.item c.args.request.now.limit c.args.steps.now c.drive.new.memo c.drive.new.steps (Ok c.in_ok-given.given) c.new-runs.ensures.frames (asks_in_order c.laws.ensures.items_first c.args.request.now.world.now) c.in_ok-given.ensures.drove) in
    let came : c.in_ok-came.came ≡ c.in-Some.body.now.reply.namespace = c.in_ok-came.ensures ∙ ap (λ (r : Reply). r.namespace) c.get-2.ensures in
    walks_on c.args.request.now.world.now c.args.request.now.node.now (asks_in_order c.laws.ensures.items_first c.args.request.now.world.now) c.laws.ensures.waits_on_the_way start c.args.memo.now c.args.request.now.limit before c.args.steps.now c.args.behind.records c.args.behind.item c.args.behind.rest w
    c.if-request-le1.false c.new-runs.result.stack (ap (λ (x : Flight). x.top) c.new-runs.ensures.stack) c.drive.new.memo c.drive.new.steps c.in_ok-given.given
    (drives_alone c.args.request.now.world.now c.args.memo.now c.new-runs.result.stack c.new-runs.result.frames.items c.args.behind.item c.args.request.now.limit c.args.steps.now c.drive.new.memo c.drive.new.steps (Ok c.in_ok-given.given) c.new-runs.ensures.frames (asks_in_order c.laws.ensures.items_first c.args.request.now.world.now) c.in_ok-given.ensures.drove)
    c.requires.sound.ordered c.in_ok-given.ensures.sound.0.ordered (c.in_ok-given.ensures.grown c.args.memo.now (grown_from_itself c.args.memo.now)) c.in-Some.body.now
    (subst (λ (n : Node). IsHeldAs c.drive.new.memo.held c.in_ok-given.given.id.at n) item c.in_ok-given.ensures.sound.2) c.in-Some.ensures
    c.ask.new.self c.walk_further.new.records
    (c.in_ok-ask.ensures.seen ∙ ap (λ (n : Node). with_read (read.Node n) c.args.behind.records.seen) item) c.in_ok-ask.ensures.asks c.in_ok-led.led
    (subst (λ (x : Option Namespace). LeadsFurther (model_of c.args.request.now.world.now) c.drive.new.memo.held c.args.behind.rest x c.ask.new.self c.in_ok-led.led c.walk_further.new.records) came c.in_ok-led.ensures)
