use Rattle.std.proofs.Common.{arith}
use Rattle.mx_rings.proofs.LinkLemmas.{parent_built, parent_none}
use Rattle.mx_rings.proofs.links.parent_of.Goals as goal

pub returns-in-len1 : goal.returns-in-len1
returns-in-len1 c =
    let least = c.in-len1.len_at_least in
    let below = c.in-len1.len_below in
    parent_none c.args.text.now c.args.path.now c.as_slice.result.now c.as_slice.ensures (omega arith) c.none_above.ensures

pub returns-in-len1-up : goal.returns-in-len1-up
returns-in-len1-up c =
    let least = c.in-len1-up.len_at_least in
    parent_built c.args.text.now c.args.path.now c.as_slice.result.now c.in_ok-parent-in-len1-up.parent c.id_of.result c.as_slice.ensures (omega arith)
    c.in_ok-parent-in-len1-up.ensures c.id_of.ensures
