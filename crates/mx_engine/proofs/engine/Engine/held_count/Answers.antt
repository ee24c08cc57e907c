use Rattle.std.proofs.Common.{length, sym, ◌∙◌, ap}
use Rattle.mx_state.specs.State.{State}
use Rattle.mx_engine.proofs.Read.{as_many}
use Rattle.mx_engine.proofs.engine.Engine.held_count.Goals as goal

pub returns : goal.returns
returns c = c.count.ensures ∙ sym (as_many c.self.inside.memo) ∙ ap (λ (s : State). length s.held) c.self.view_is
