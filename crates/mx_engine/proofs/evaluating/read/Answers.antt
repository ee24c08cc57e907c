use Rattle.std.proofs.Common.{◌≡◌, ◌-◌, sym, ◌∙◌}
use Rattle.mx_memo_laws.specs.Entries.{entries_of}
use Rattle.mx_engine.proofs.Kept.{sound_same}
use Rattle.mx_engine.proofs.Read.{reads_told, first_again, nothing_told}
use Rattle.mx_engine.proofs.evaluating.read.Goals as goal

pub returns-in-Ok-reads_of-clause-precedents : goal.returns-in-Ok-reads_of-clause-precedents
returns-in-Ok-reads_of-clause-precedents g c =
    reads_told c.args.request.now.world.now c.args.memo.now c.evaluate.new.memo c.args.request.now.limit c.args.request.now.node.now c.in-Ok.field-0 c.in-Ok-reads_of.reads (c.evaluate.new.steps - c.args.steps.now)
    c.in-Ok.ensures.evaluates c.in-Ok-reads_of.ensures

pub returns-in-Err-reads_of-clause-sound : goal.returns-in-Err-reads_of-clause-sound
returns-in-Err-reads_of-clause-sound g c =
    let same : entries_of c.keep_first.new.memo.held ≡ entries_of c.args.memo.now.held =
    c.keep_first.ensures.entries
    ∙ first_again c.args.request.now.world.now c.args.memo.now c.evaluate.new.memo c.args.request.now.limit c.count-count.result c.args.request.now.node.now c.in-Ok.field-0 (c.evaluate.new.steps - c.args.steps.now)
    c.in-Ok.ensures.evaluates c.count-count.ensures in
    sound_same c.args.request.now.world.now c.args.request.now.limit c.args.memo.now c.keep_first.new.memo same c.keep_first.ensures.ordered
    (c.keep_first.ensures.begun ∙ c.in-Ok.ensures.sound.kept.idle ∙ sym c.requires.kept.idle) c.requires

pub returns-in-Err-reads_of-clause-precedents : goal.returns-in-Err-reads_of-clause-precedents
returns-in-Err-reads_of-clause-precedents g c =
    let same : entries_of c.keep_first.new.memo.held ≡ entries_of c.args.memo.now.held =
    c.keep_first.ensures.entries
    ∙ first_again c.args.request.now.world.now c.args.memo.now c.evaluate.new.memo c.args.request.now.limit c.count-count.result c.args.request.now.node.now c.in-Ok.field-0 (c.evaluate.new.steps - c.args.steps.now)
    c.in-Ok.ensures.evaluates c.count-count.ensures in
    nothing_told c.args.request.now.world.now c.args.memo.now c.keep_first.new.memo c.args.request.now.limit c.args.request.now.node.now (c.evaluate.new.steps - c.args.steps.now) c.requires same
