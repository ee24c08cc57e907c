use Rattle.std.proofs.Common.{subst}
use Rattle.mx_state.specs.State.{State, IsRightState}
use Rattle.mx_engine.specs.Proper.{IsProperState}
use Rattle.mx_engine.proofs.engine.Engine.world.Goals as goal

pub returns-clause-right : goal.returns-clause-right
returns-clause-right c = subst (λ (s : State). IsRightState s) c.self.view_is c.self.invariant.sound.right

pub returns-clause-proper : goal.returns-clause-proper
returns-clause-proper c = subst (λ (s : State). IsProperState s) c.self.view_is c.self.invariant.proper
