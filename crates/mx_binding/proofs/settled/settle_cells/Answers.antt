use Rattle.std.proofs.Common.{◌≡◌, List, refl, ◌∙◌, ap, subst}
use Rattle.std.proofs.lemmas.Result.{IfOk-weaker}
use Rattle.mx_value.specs.declared.value.Value.{Value}
use Rattle.mx_value.specs.declared.node.Node.TheVariants as whole
use Rattle.mx_syntax.specs.declared.stmt.Formula.{Formula}
use Rattle.mx_syntax.specs.declared.stmt.Param.{Param}
use Rattle.mx_edit.specs.declared.key.KeyResult.TheVariants as found
use Rattle.mx_model.specs.Keys.{key_result}
use Rattle.mx_meaning.specs.Walks.{bound_or_refused}
use Rattle.mx_binding.specs.declared.settled.Settled.TheVariants as settled
use Rattle.mx_binding.specs.Settles.{settled_run}
use Rattle.mx_binding.proofs.Settling.{cells_settle}
use Rattle.mx_binding.proofs.settled.settle_cells.Goals as goal

pub returns-in-Some : goal.returns-in-Some
returns-in-Some c =
    let known : c.as_slice-known.result.now ≡ c.in-Some.cells.formula.now.params =
    c.as_slice-known.ensures ∙ ap (λ (f : Formula). f.params) c.formula.ensures in
    IfOk-weaker c.bind_cells.result _ _
    (λ to binds at.
    cells_settle (key_result c.args.world.now) c.args.space.now c.args.arguments.now at c.args.name.now (found.Formula c.in-Some.cells.formula.now c.in-Some.cells.allow_none) to c.in-Some.ensures
    (λ go. subst (λ (ps : List Param). bound_or_refused ps c.args.arguments.now (λ (full : List Value). go (whole.Cell c.args.space.now.at c.args.name.now full)) ≡ settled_run to go) known (binds go)))
    c.bind_cells.ensures

pub returns-in-None : goal.returns-in-None
returns-in-None c = λ at.
    cells_settle (key_result c.args.world.now) c.args.space.now c.args.arguments.now at c.args.name.now found.Missing settled.NoSuch c.in-None.ensures (λ go. refl)
