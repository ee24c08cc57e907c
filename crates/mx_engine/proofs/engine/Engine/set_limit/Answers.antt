use Rattle.std.proofs.Common.{ap, refl, arith}
use Rattle.mx_answers.specs.Answers.{IsLimit}
use Rattle.mx_state.specs.State.{State}
use Rattle.mx_engine.proofs.Kept.{sound_limit}
use Rattle.mx_engine.proofs.engine.Engine.set_limit.Goals as goal

pub invariant_of-self : goal.invariant_of-self
invariant_of-self c =
    let low = c.if-limit-lt1.false in
    let high = c.if-limit-gt-GREATEST.false in
    let within : IsLimit c.args.limit = record { least = omega (arith, low); greatest = omega (arith, high) } in
    record {
      sound = sound_limit c.laws.ensures.right_with_limit c.self.inside.world c.self.inside.memo c.self.inside.limit c.args.limit c.self.invariant.sound within;
      proper = record { small = c.self.invariant.proper.small; proper = c.self.invariant.proper.proper };
    }

pub returns-clause-accepted : goal.returns-clause-accepted
returns-clause-accepted c = ap (λ (s : State). record s { limit = c.args.limit }) c.self.view_is

pub returns-clause-exact : goal.returns-clause-exact
returns-clause-exact c =
    let low = c.if-limit-lt1.false in
    let high = c.if-limit-gt-GREATEST.false in
    let within : IsLimit c.args.limit = record { least = omega (arith, low); greatest = omega (arith, high) } in
    (λ h. within, λ h. refl)
