use Rattle.mx_whole_edits.proofs.ReadyLemmas.{ready_kept}
use Rattle.mx_whole_edits.proofs.whole.keep_ready.Goals as goal

pub returns : goal.returns
returns c ready read = ready_kept c.args.text.now c.args.made.now c.kinds.result.now c.kinds-2.result.now c.args.edit.now c.kinds.ensures c.kinds-2.ensures ready read c.requires.accepted c.requires.next
