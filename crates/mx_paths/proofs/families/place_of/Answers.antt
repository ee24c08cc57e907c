use Rattle.std.proofs.Common.{◌+◌, ◌-◌, ◌/◌, arith}
use Rattle.mx_paths.proofs.SortLemmas.{up, down}
use Rattle.mx_paths.proofs.families.place_of.Goals as goal

pub loop-low-preserved-then-precedes : goal.loop-low-preserved-then-precedes
loop-low-preserved-then-precedes c =
    let middle = c.loop-low.low + (c.loop-low.high - c.loop-low.low) / 2 in
    up c.args.children.now c.args.name.now c.loop-low.low c.loop-low.high middle c.index-children-middle.result c.requires c.loop-low.invariant (omega arith) (c.precedes.ensures.0 c.if-precedes.true)

pub loop-low-preserved : goal.loop-low-preserved
loop-low-preserved c =
    let middle = c.loop-low.low + (c.loop-low.high - c.loop-low.low) / 2 in
    down c.args.children.now c.args.name.now c.loop-low.low c.loop-low.high middle c.index-children-middle.result c.requires c.loop-low.invariant (omega arith) (omega arith) (λ p. let t = c.precedes.ensures.1 p in cc)
