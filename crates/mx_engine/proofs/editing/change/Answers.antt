use Rattle.std.proofs.Common.{Ok, sym, ◌∙◌, subst}
use Rattle.mx_model.specs.Records.{ModelRecord}
use Rattle.mx_model.specs.Apply.{Apply}
use Rattle.mx_engine.specs.Edited.{HasEdited}
use Rattle.mx_engine.proofs.Kept.{edited}
use Rattle.mx_engine.proofs.Refusing.{refused_for}
use Rattle.mx_engine.proofs.editing.change.Goals as goal

pub returns-in-Err-clause-exact : goal.returns-in-Err-clause-exact
returns-in-Err-clause-exact c = refused_for c.args.world.now c.args.edit.now c.in-Err.why c.in-Err.ensures

pub returns-clause-accepted : goal.returns-clause-accepted
returns-clause-accepted c =
    let next = c.world-next.result.now in
    let applied : Apply c.args.world.now c.args.edit.now (Ok next) = subst (λ (t : ModelRecord). Apply c.args.world.now c.args.edit.now (Ok t)) (sym c.world-next.ensures) c.in-Ok.ensures in
    subst (λ (t : ModelRecord). HasEdited c.args.world.now c.args.memo.now c.args.edit.now t c.keep_unchanged-dropped.new.memo) (c.world-next.ensures ∙ sym c.commit.ensures)
    (λ limit sound.
    edited c.laws.ensures.right_after_edit c.laws-2.ensures.retention c.args.world.now next c.args.memo.now c.keep_unchanged-dropped.new.memo limit c.args.edit.now sound applied c.text.ensures.valid
    c.keep_unchanged-dropped.ensures.drops c.keep_unchanged-dropped.ensures.last c.keep_unchanged-dropped.ensures.begun)
