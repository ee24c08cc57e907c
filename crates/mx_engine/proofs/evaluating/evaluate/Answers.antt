use Rattle.mx_engine.proofs.Kept.{sound_same, evaluated}
use Rattle.mx_engine.proofs.evaluating.evaluate.Goals as goal

pub close_gaps-requires : goal.close_gaps-requires
close_gaps-requires g c = c.requires.kept.ordered

pub run-requires : goal.run-requires
run-requires g c = record {
  kept = (sound_same c.args.request.now.world.now c.args.request.now.limit c.args.memo.now c.close_gaps.new.memo c.close_gaps.ensures.entries c.close_gaps.ensures.ordered c.close_gaps.ensures.begun c.requires).kept;
  limit = c.requires.right.limit;
}

pub returns : goal.returns
returns g c =
    let e = evaluated c.laws.ensures.right_after_evaluation c.args.request.now.world.now c.args.memo.now c.close_gaps.new.memo c.run.new.memo c.args.request.now.limit c.args.request.now.node.now c.run.result _
    c.requires c.close_gaps.ensures.entries c.run.ensures.kept c.run.ensures.evaluates in
    record { sound = e.sound; evaluates = e.evaluates; ticks = c.run.ensures.ticks }
