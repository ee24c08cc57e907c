use Rattle.std.proofs.Common.{◌≤◌, length, sym, arith, append-nil}
use Rattle.mx_retain.proofs.Changed.{add_next, add_all}
use Rattle.mx_retain.proofs.inputs.add_changed.Goals as goal

pub loop-place-init : goal.loop-place-init
loop-place-init c = sym (append-nil _)

pub loop-place-preserved : goal.loop-place-preserved
loop-place-preserved c =
    add_next c.args.before.now c.args.after.now c.args.inputs.now c.loop-place.place c.in-Some.node.now c.in-Some.field-0-1.now c.args.nodes.now.items c.loop-place.nodes.items c.add_one.new.nodes.items
    c.loop-place.invariant (sym c.in-Some.ensures) c.in_ok-add_one.ensures

pub returns : goal.returns
returns c =
    let l : length c.args.inputs.now ≤ c.loop-place.place = let e = c.count-place-end.ensures.all in omega arith in
    add_all c.args.before.now c.args.after.now c.args.inputs.now c.loop-place.place c.args.nodes.now.items c.loop-place.nodes.items c.loop-place.invariant l
