use Rattle.std.proofs.Common.{◌∙◌, sym}
use Rattle.mx_machine.proofs.Closed.{closed_with_all, closed_as_before}
use Rattle.mx_machine.proofs.closing.close.Goals as goal

pub returns-then-keeps : goal.returns-then-keeps
returns-then-keeps c = λ model start ev ticks at over.
    closed_with_all model start c.args.memo.now c.end_runs.new.memo ev ticks c.args.answer.now over c.requires c.end_runs.ensures.held c.end_runs.ensures.last c.end_runs.ensures.begun
    (sym c.keeps.ensures ∙ c.if-keeps.true)

pub returns : goal.returns
returns c = λ model start ev ticks at over.
    closed_as_before model start c.args.memo.now c.end_runs.new.memo ev ticks c.args.answer.now over c.requires c.end_runs.ensures.held c.end_runs.ensures.last c.end_runs.ensures.begun
    c.roll_back_to.new.self c.args.since at (sym c.keeps.ensures ∙ c.if-keeps.false) c.roll_back_to.ensures.drops c.roll_back_to.ensures.last c.roll_back_to.ensures.begun
