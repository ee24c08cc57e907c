use Rattle.mx_whole_edits.proofs.LaidLemmas.{lines_told}
use Rattle.mx_prepare.proofs.lines.with_line.Goals as goal

pub with_edit-requires : goal.with_edit-requires
with_edit-requires c = lines_told c.args.text.now c.args.edit.now c.requires
