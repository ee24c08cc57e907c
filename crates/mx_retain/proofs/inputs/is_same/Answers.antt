use Rattle.std.proofs.Common.{◌∙◌, sym, ap}
use Rattle.std.specs.Option.{option_copied}
use Rattle.mx_edit.specs.declared.key.Key.TheVariants.{Input}
use Rattle.mx_model.specs.Keys.{value_of, key_result}
use Rattle.mx_world.proofs.SameLemmas.{same_values}
use Rattle.mx_retain.proofs.inputs.is_same.Goals as goal

pub returns-in-Some-Some : goal.returns-in-Some-Some
returns-in-Some-Some c =
    same_values c.in-Some-Some.one.now c.in-Some-Some.other.now c.eq.result (key_result c.args.before.now (Input c.args.node.now)) (key_result c.args.after.now (Input c.args.node.now)) c.eq.ensures
    (sym c.input.ensures ∙ ap (λ o. value_of (option_copied o)) c.in-Some-Some.is-0) (sym c.input-2.ensures ∙ ap (λ o. value_of (option_copied o)) c.in-Some-Some.is-1)
