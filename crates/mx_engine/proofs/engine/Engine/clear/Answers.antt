use Rattle.std.proofs.Common.{length, ap, subst, arith}
use Rattle.mx_machine.specs.States.{state_of}
use Rattle.mx_state.specs.State.{State}
use Rattle.mx_state.specs.Changes.{Clearing}
use Rattle.mx_engine.proofs.Kept.{cleared}
use Rattle.mx_engine.proofs.Read.{as_many}
use Rattle.mx_engine.proofs.Proper.{after_clearing}
use Rattle.mx_engine.proofs.engine.Engine.clear.Goals as goal

pub invariant_of-self : goal.invariant_of-self
invariant_of-self c =
    let done = cleared c.laws.ensures.right_after_clearing c.laws-2.ensures.clearing c.self.inside.world c.self.inside.memo c.clear_in.new.memo c.self.inside.limit c.args.scope.now
    c.self.invariant.sound c.clear_in.ensures.drops c.clear_in.ensures.last c.clear_in.ensures.begun in
    record {
      sound = done.sound;
      proper =
          after_clearing (state_of c.self.inside.world c.self.inside.memo c.self.inside.limit) (state_of c.self.inside.world c.clear_in.new.memo c.self.inside.limit) c.args.scope.now
          done.clearing c.self.invariant.proper;
    }

pub returns-clause-clears : goal.returns-clause-clears
returns-clause-clears c =
    subst (λ (s : State). Clearing s c.args.scope.now (state_of c.self.inside.world c.clear_in.new.memo c.self.inside.limit)) c.self.view_is
    (cleared c.laws.ensures.right_after_clearing c.laws-2.ensures.clearing c.self.inside.world c.self.inside.memo c.clear_in.new.memo c.self.inside.limit c.args.scope.now
    c.self.invariant.sound c.clear_in.ensures.drops c.clear_in.ensures.last c.clear_in.ensures.begun).clearing

pub returns-clause-dropped : goal.returns-clause-dropped
returns-clause-dropped c =
    let before = as_many c.self.inside.memo in
    let after = as_many c.clear_in.new.memo in
    let view = ap (λ (s : State). length s.held) c.self.view_is in
    let count = c.clear_in.ensures.count in
    omega (arith, before, after, view, count)
