use Rattle.std.proofs.Common.{ap}
use Rattle.std.specs.Option.{option_copied}
use Rattle.mx_model.specs.Keys.{global_of}
use Rattle.mx_world.proofs.SameLemmas.{same_globals}
use Rattle.mx_world.proofs.changed.same_global.Goals as goal

pub returns-in-Some-Some : goal.returns-in-Some-Some
returns-in-Some-Some c =
    same_globals c.in-Some-Some.one.now c.in-Some-Some.other.now c.eq.result (global_of (option_copied c.args.one)) (global_of (option_copied c.args.other)) c.eq.ensures (ap (λ o. global_of (option_copied o)) c.in-Some-Some.is-0) (ap (λ o. global_of (option_copied o)) c.in-Some-Some.is-1)
