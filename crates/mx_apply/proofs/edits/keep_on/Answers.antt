use Rattle.mx_apply.proofs.ChainLemmas.{goes_on}
use Rattle.mx_apply.proofs.edits.keep_on.Goals as goal

pub returns : goal.returns
returns c r m = goes_on c.args.text.now c.args.made.now c.kinds.result.now c.kinds-2.result.now c.args.edit.now c.kinds.ensures c.kinds-2.ensures c.requires.free c.requires.is r m
