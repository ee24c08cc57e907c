use Rattle.std.proofs.Common.{subst}
use Rattle.std.specs.Prelude.{◌↔◌, IsTrue}
use Rattle.mx_runs.specs.Lists.{Has}
use Rattle.mx_answers.specs.Held.{nodes_of}
use Rattle.mx_state.specs.State.{State}
use Rattle.mx_engine.proofs.engine.Engine.held.Goals as goal

pub holds-requires : goal.holds-requires
holds-requires c = c.self.invariant.sound.kept.ordered

pub returns : goal.returns
returns c = subst (λ (s : State). IsTrue c.holds.result ↔ Has (nodes_of s.held) c.args.node.now) c.self.view_is c.holds.ensures
