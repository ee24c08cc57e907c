use Rattle.mx_rings.proofs.LinkLemmas.{links_more, parent_within}
use Rattle.mx_rings.proofs.links.links_of.Goals as goal

pub add_child-requires : goal.add_child-requires
add_child-requires c = parent_within c.args.text.now c.path_of.result.now c.in_ok-parent.parent c.loop-place.place c.loop-place.links.items c.loop-place.invariant c.in_ok-parent.ensures

pub loop-place-preserved : goal.loop-place-preserved
loop-place-preserved c =
    links_more c.args.text.now c.loop-place.place c.path_of.result.now c.loop-place.links.items c.add_child.new.links.items c.in_ok-parent.parent c.loop-place.invariant c.path_of.ensures
    c.in_ok-parent.ensures (parent_within c.args.text.now c.path_of.result.now c.in_ok-parent.parent c.loop-place.place c.loop-place.links.items c.loop-place.invariant c.in_ok-parent.ensures) c.in_ok-add_child.ensures
