use Rattle.mx_whole_edits.proofs.LaidLemmas.{kept_laid}
use Rattle.mx_whole_edits.proofs.laid.keep_laid.Goals as goal

pub returns : goal.returns
returns c laid line = kept_laid c.args.text.now c.args.made.now c.kinds.result.now c.args.edit.now c.kinds.ensures c.requires.free c.requires.is laid line
