use Rattle.std.proofs.Common.{◌-◌, subst}
use Rattle.mx_machine.specs.States.{state_of}
use Rattle.mx_state.specs.State.{State}
use Rattle.mx_state.specs.Evaluations.{Evaluates}
use Rattle.mx_engine.proofs.Proper.{after_evaluation}
use Rattle.mx_engine.proofs.engine.Engine.eval.Goals as goal

pub evaluate-requires : goal.evaluate-requires
evaluate-requires g c = c.self.invariant.sound

pub invariant_of-self : goal.invariant_of-self
invariant_of-self g c = record {
  sound = c.evaluate.ensures.sound;
  proper = after_evaluation (state_of c.self.inside.world c.self.inside.memo c.self.inside.limit) (state_of c.self.inside.world c.evaluate.new.memo c.self.inside.limit) c.args.node.now
      c.evaluate.result (c.evaluate.new.steps - c.args.steps.now) c.self.invariant.sound.right.valid c.requires c.evaluate.ensures.evaluates c.self.invariant.proper;
}

pub returns-clause-evaluates : goal.returns-clause-evaluates
returns-clause-evaluates g c =
    subst (λ (s : State). Evaluates s c.args.node.now c.evaluate.result (c.evaluate.new.steps - c.args.steps.now) (state_of c.self.inside.world c.evaluate.new.memo c.self.inside.limit)) c.self.view_is
    c.evaluate.ensures.evaluates
