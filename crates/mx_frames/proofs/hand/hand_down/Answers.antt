use Rattle.std.proofs.Common.{refl}
use Rattle.mx_model.specs.Keys.{key_result}
use Rattle.mx_state.specs.Model.{model_of}
use Rattle.mx_state.proofs.Bound.{inputs_end}
use Rattle.mx_frames.proofs.Handing.{flies_on, sound_on}
use Rattle.mx_frames.proofs.hand.hand_down.Goals as goal

pub returns-clause-goes : goal.returns-clause-goes
returns-clause-goes c = λ q m now at h.
    flies_on m c.args.runs.now.frames.items c.pop.new.self.items c.in-Some.frame c.args.given c.in-Some.ensures.items at c.args.given.node refl c.ask.new.self c.in_ok-ask.ensures.seen c.in_ok-ask.ensures.asks
    _ c.in_ok-halt.ensures.node c.in_ok-halt.ensures.asks
    (model_of c.args.world.now) (inputs_end (key_result c.args.world.now)) q now c.args.runs.now.stack.below h c.end.new.self c.resume.new.stack c.end.ensures c.get.result.now c.get.ensures c.in_ok-halt.ensures.goes

pub returns-clause-sound : goal.returns-clause-sound
returns-clause-sound c = λ m at s.
    sound_on m c.args.runs.now.frames.items c.pop.new.self.items c.in-Some.frame c.args.given c.in-Some.ensures.items at c.args.given.node refl c.ask.new.self c.in_ok-ask.ensures.seen c.in_ok-ask.ensures.asks
    _ c.in_ok-halt.ensures.node c.in_ok-halt.ensures.asks s
