use Rattle.mx_whole_edits.proofs.WholeLemmas.{stopped_by, ring_stops}
use Rattle.mx_whole_edits.proofs.whole.applied.Goals as goal

pub returns-in-Ok-Some-clause-exact : goal.returns-in-Ok-Some-clause-exact
returns-in-Ok-Some-clause-exact c =
    ring_stops c.args.text.now c.in-Ok.made c.args.edit.now c.in-Ok-Some.ring c.in-Ok.ensures.made.0 c.in-Ok.ensures.made.1 (rw c.in-Ok-Some.field-0-is at c.in-Ok-Some.ensures)

pub returns-in-Err-clause-exact : goal.returns-in-Err-clause-exact
returns-in-Err-clause-exact c = stopped_by c.args.text.now c.args.edit.now c.in-Err.why c.in-Err.ensures.made

pub with_edit-requires : goal.with_edit-requires
with_edit-requires c looks = c.requires.next.sound
