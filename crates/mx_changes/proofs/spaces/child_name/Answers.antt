use Rattle.mx_model.proofs.Defined.{ends_so, ends_other}
use Rattle.mx_changes.proofs.spaces.child_name.Goals as goal

pub returns-then-eq : goal.returns-then-eq
returns-then-eq c = ends_so c.args.path.now c.args.parent.now c.as_slice.result.now c.as_slice-in-len1-up.result.now c.last-item.result c.eq.result c.as_slice.ensures c.as_slice-in-len1-up.ensures c.in-len1-up.len_at_least c.last-item.is c.eq.ensures c.if-eq.true

pub returns-in-len1-up : goal.returns-in-len1-up
returns-in-len1-up c = ends_other c.args.path.now c.args.parent.now c.as_slice.result.now c.as_slice-in-len1-up.result.now c.last-item.result c.eq.result c.as_slice.ensures c.as_slice-in-len1-up.ensures c.in-len1-up.len_at_least c.last-item.is c.eq.ensures c.if-eq.false
