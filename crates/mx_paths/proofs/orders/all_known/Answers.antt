use Rattle.std.proofs.Common.{List, Some, ◌∙◌, ap, sym}
use Rattle.mx_c3.specs.declared.space.SpaceId.{SpaceId}
use Rattle.mx_paths.proofs.OrderLemmas.{known_more, known_none}
use Rattle.mx_paths.proofs.orders.all_known.Goals as goal

abbrev first : SpaceId
first = record { 0 = 0 }

pub returns-in-None : goal.returns-in-None
returns-in-None c = known_none c.args.orders.now c.args.spaces.now c.loop-space.space-index first c.loop-space-test.true c.in-None.ensures

pub loop-space-preserved : goal.loop-space-preserved
loop-space-preserved c =
    let order = c.new.result in
    known_more c.args.orders.now c.args.spaces.now c.loop-space.space-index first c.loop-space.known.items order c.loop-space-test.true c.loop-space.invariant (c.in-Some.ensures ∙ ap Some (sym (c.new.ensures ∙ c.as_slice.ensures))) ∙ ap Some (sym {A = List (List SpaceId)} c.in_ok-push-in-Some.ensures.items)
