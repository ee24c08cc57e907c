use Rattle.std.proofs.Common.{◌∙◌}
use Rattle.mx_model.specs.Layers.{base_lists}
use Rattle.mx_rings.proofs.LinkLemmas.{bases_more}
use Rattle.mx_rings.proofs.links.all_bases.Goals as goal

pub loop-place-preserved : goal.loop-place-preserved
loop-place-preserved c =
    bases_more (base_lists c.args.text.now) c.loop-place.lists.items c.loop-place.place c.bases_of-bases.result.now c.in_ok-copied.field-0 c.push.new.self.items
    c.loop-place.invariant c.bases_of-bases.ensures (c.in_ok-copied.ensures ∙ c.as_slice.ensures) c.in_ok-push.ensures.items
