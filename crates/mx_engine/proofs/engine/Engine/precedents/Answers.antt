use Rattle.std.proofs.Common.{◌-◌, subst}
use Rattle.mx_machine.specs.States.{state_of}
use Rattle.mx_state.specs.State.{State}
use Rattle.mx_state.specs.Evaluations.{HasPrecedents}
use Rattle.mx_engine.proofs.Proper.{after_precedents}
use Rattle.mx_engine.proofs.engine.Engine.precedents.Goals as goal

pub read-requires : goal.read-requires
read-requires g c = c.self.invariant.sound

pub invariant_of-self : goal.invariant_of-self
invariant_of-self g c = record {
  sound = c.read.ensures.sound;
  proper = after_precedents (state_of c.self.inside.world c.self.inside.memo c.self.inside.limit) (state_of c.self.inside.world c.read.new.memo c.self.inside.limit) c.args.node.now
      c.read.result (c.read.new.steps - c.args.steps.now) c.self.invariant.sound.right.valid c.requires c.read.ensures.precedents c.self.invariant.proper;
}

pub returns-clause-precedents : goal.returns-clause-precedents
returns-clause-precedents g c =
    subst (λ (s : State). HasPrecedents s c.args.node.now c.read.result (c.read.new.steps - c.args.steps.now) (state_of c.self.inside.world c.read.new.memo c.self.inside.limit)) c.self.view_is
    c.read.ensures.precedents
