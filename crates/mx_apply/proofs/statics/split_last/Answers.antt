use Rattle.mx_apply.proofs.StaticLemmas.{split_built}
use Rattle.mx_apply.proofs.statics.split_last.Goals as goal

pub returns : goal.returns
returns c = split_built c.args.path.now c.as_slice.result.now c.in_ok-parent.parent c.last-item.result c.in_ok-copy.field-0 c.as_slice.ensures c.in-len1-up.len_at_least c.last-item.is c.in_ok-parent.ensures c.in_ok-copy.ensures
