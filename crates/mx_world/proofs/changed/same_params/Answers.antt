use Rattle.std.proofs.Common.{◌∙◌, ap}
use Rattle.std.specs.Option.{option_copied}
use Rattle.mx_syntax.specs.declared.stmt.Params.{Params}
use Rattle.mx_syntax.specs.Equality.{params_eq}
use Rattle.mx_model.specs.Keys.{params_of}
use Rattle.mx_world.proofs.SameLemmas.{same_params}
use Rattle.mx_world.proofs.changed.same_params.Goals as goal

pub returns-in-Some-Some : goal.returns-in-Some-Some
returns-in-Some-Some c =
    let y = c.params-in-Some-Some.result.now in
    let r = c.eq.ensures ∙ ap (λ (p : Params). params_eq p y) c.params.ensures ∙ ap (params_eq c.in-Some-Some.one.now) c.params-in-Some-Some.ensures in
    same_params c.in-Some-Some.one.now c.in-Some-Some.other.now c.eq.result (params_of (option_copied c.args.one)) (params_of (option_copied c.args.other)) r (ap (λ o. params_of (option_copied o)) c.in-Some-Some.is-0) (ap (λ o. params_of (option_copied o)) c.in-Some-Some.is-1)
