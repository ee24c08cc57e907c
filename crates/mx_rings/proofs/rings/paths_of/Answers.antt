use Rattle.std.proofs.Common.{length}
use Rattle.mx_rings.proofs.RingLemmas.{paths_more, place_below}
use Rattle.mx_rings.proofs.rings.paths_of.Goals as goal

pub path_of-requires : goal.path_of-requires
path_of-requires c = place_below (length c.args.text.now.spaces) c.args.spaces.now c.as_slice-s-items.result.now c.loop-s.s-index _ c.requires c.as_slice-s-items.ensures c.loop-s-test.true

pub loop-s-preserved : goal.loop-s-preserved
loop-s-preserved c =
    paths_more c.args.text.now c.args.spaces.now c.as_slice-s-items.result.now c.loop-s.s-index _ c.path_of.result.now c.in_ok-copy.field-0 c.loop-s.paths.items c.push.new.self.items
    c.as_slice-s-items.ensures c.loop-s-test.true c.loop-s.invariant c.path_of.ensures c.in_ok-copy.ensures c.in_ok-push.ensures.items
