use Rattle.std.proofs.Common.{◌≡◌, true, List, refl, sym, ◌∙◌, ap, subst}
use Rattle.std.proofs.lemmas.Result.{IfOk-weaker}
use Rattle.mx_value.specs.declared.value.Value.{Value}
use Rattle.mx_value.specs.declared.node.Node.TheVariants as whole
use Rattle.mx_syntax.specs.declared.stmt.Params.{Params}
use Rattle.mx_syntax.specs.declared.stmt.Param.{Param}
use Rattle.mx_edit.specs.declared.key.KeyResult.TheVariants as found
use Rattle.mx_model.specs.Keys.{key_result}
use Rattle.mx_meaning.specs.Namespaces.{ends_with_name}
use Rattle.mx_meaning.specs.Walks.{bound_or_refused}
use Rattle.mx_binding.specs.declared.settled.Settled.TheVariants as settled
use Rattle.mx_binding.specs.Settles.{settled_run}
use Rattle.mx_binding.proofs.Settling.{item_settles}
use Rattle.mx_binding.proofs.settled.settle_item.Goals as goal

pub returns-in-Some : goal.returns-in-Some
returns-in-Some c =
    let named : ends_with_name c.args.space.now.at ≡ true =
    sym (c.ends_with_name.ensures ∙ ap ends_with_name c.as_slice.ensures) ∙ c.if-not-ends_with_name.false in
    let known : c.as_slice-known.result.now ≡ c.in-Some.found.now.params =
    c.as_slice-known.ensures ∙ ap (λ (ps : Params). ps.params) c.params-in-Some.ensures in
    IfOk-weaker c.bind_item.result _ _
    (λ to binds at.
    item_settles (key_result c.args.world.now) c.args.space.now c.args.arguments.now at (found.Params c.in-Some.found.now) to named c.in-Some.ensures
    (λ go. subst (λ (ps : List Param). bound_or_refused ps c.args.arguments.now (λ (full : List Value). go (whole.Item c.args.space.now.at full)) ≡ settled_run to go) known (binds go)))
    c.bind_item.ensures

pub returns-in-None : goal.returns-in-None
returns-in-None c = λ at.
    let named : ends_with_name c.args.space.now.at ≡ true =
    sym (c.ends_with_name.ensures ∙ ap ends_with_name c.as_slice.ensures) ∙ c.if-not-ends_with_name.false in
    item_settles (key_result c.args.world.now) c.args.space.now c.args.arguments.now at found.Missing settled.NoSuch named c.in-None.ensures (λ go. refl)
