use Rattle.std.proofs.Common.{◌∙◌, Ok, Err, ap}
use Rattle.std.proofs.lemmas.Result.{err_from_is_err_and}
use Rattle.mx_edit.specs.declared.reply.Reply.{Reply}
use Rattle.mx_memo_laws.proofs.Growing.{grown_from_itself}
use Rattle.mx_frames.specs.Flights.{first_of}
use Rattle.mx_stack.specs.Flight.{Flight}
use Rattle.mx_machine.proofs.Beginning.{drove_alone}
use Rattle.mx_machine.proofs.Over.{over_broken, over_given, over_lost}
use Rattle.mx_machine.proofs.evaluating.run_new.Goals as goal

pub returns-in_err-given-clause-over : goal.returns-in_err-given-clause-over
returns-in_err-given-clause-over g c =
    let p = err_from_is_err_and c.from_residual.result c.from_residual.ensures.1 in
    rw (p.1, p.2)
    (over_broken c.args.setting.now.world.now c.args.memo.now c.args.node c.requires.kept
    c.drive.new.memo c.args.setting.now.limit c.args.steps.now c.drive.new.steps (c.in_err-given.ensures.grown c.args.memo.now (grown_from_itself c.args.memo.now))
    (first_of c.new-runs.result.frames.items c.args.node) c.in_err-given.field-0.0
    (drove_alone c.args.setting.now.world.now c.args.memo.now c.args.node c.requires.kept c.requires.unknown
    c.args.setting.now.limit c.args.setting.now.below c.args.steps.now c.new-runs.result.stack c.new-runs.result.frames.items
    c.drive.new.memo (first_of c.new-runs.result.frames.items c.args.node) c.drive.new.steps (Err c.in_err-given.field-0.0) c.laws.ensures.items_first c.requires.alone (ap (λ (x : Flight). x.top) c.new-runs.ensures.stack) c.new-runs.ensures.frames c.in_err-given.ensures.drove))

pub returns-in_err-copy-clause-over : goal.returns-in_err-copy-clause-over
returns-in_err-copy-clause-over g c =
    let p = err_from_is_err_and c.from_residual-in_err-copy.result c.from_residual-in_err-copy.ensures.1 in
    let d =
    drove_alone c.args.setting.now.world.now c.args.memo.now c.args.node c.requires.kept c.requires.unknown
    c.args.setting.now.limit c.args.setting.now.below c.args.steps.now c.new-runs.result.stack c.new-runs.result.frames.items
    c.drive.new.memo (first_of c.new-runs.result.frames.items c.args.node) c.drive.new.steps (Ok c.in_ok-given.given) c.laws.ensures.items_first c.requires.alone (ap (λ (x : Flight). x.top) c.new-runs.ensures.stack) c.new-runs.ensures.frames c.in_ok-given.ensures.drove in
    rw (p.1, p.2)
    (over_lost c.args.setting.now.world.now c.args.memo.now c.args.node c.requires.kept
    c.drive.new.memo c.args.setting.now.limit c.args.steps.now c.drive.new.steps (c.in_ok-given.ensures.grown c.args.memo.now (grown_from_itself c.args.memo.now))
    c.in_ok-given.given d.0)

pub returns-clause-over : goal.returns-clause-over
returns-clause-over g c =
    let d =
    drove_alone c.args.setting.now.world.now c.args.memo.now c.args.node c.requires.kept c.requires.unknown
    c.args.setting.now.limit c.args.setting.now.below c.args.steps.now c.new-runs.result.stack c.new-runs.result.frames.items
    c.drive.new.memo (first_of c.new-runs.result.frames.items c.args.node) c.drive.new.steps (Ok c.in_ok-given.given) c.laws.ensures.items_first c.requires.alone (ap (λ (x : Flight). x.top) c.new-runs.ensures.stack) c.new-runs.ensures.frames c.in_ok-given.ensures.drove in
    over_given c.args.setting.now.world.now c.args.memo.now c.args.node c.requires.kept
    c.drive.new.memo c.args.setting.now.limit c.args.steps.now c.drive.new.steps (c.in_ok-given.ensures.grown c.args.memo.now (grown_from_itself c.args.memo.now))
    c.in_ok-given.given d.0 c.in_ok-copy.field-0 (c.in_ok-copy.ensures ∙ ap (λ (r : Reply). r.value) c.get.ensures)
