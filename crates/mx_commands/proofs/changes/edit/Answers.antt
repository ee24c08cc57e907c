use Rattle.mx_commands.specs.Step.{Refuses}
use Rattle.mx_commands.proofs.EditLemmas.{applied}
use Rattle.mx_commands.proofs.changes.edit.Goals as goal

pub returns-in-Err : goal.returns-in-Err
returns-in-Err c =
    let done = c.in_ok-push_refused_edit-in-Err.ensures in
    Refuses c.in-Err.refusal (applied c.args.engine.now.text c.args.change.now c.in-Err.refusal done.memory c.in-Err.ensures.exact) (rw c.requires.empty at done.text) c.in-Err.ensures.refused
