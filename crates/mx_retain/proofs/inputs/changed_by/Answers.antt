use Rattle.std.proofs.Common.{Ok, ◌∙◌, ap, subst}
use Rattle.mx_value.specs.declared.node.Node.{Node}
use Rattle.mx_value.specs.declared.node.Node.TheVariants as node
use Rattle.mx_edit.specs.declared.edit.Edit.{Edit}
use Rattle.mx_model.specs.Apply.{Apply}
use Rattle.mx_model.specs.Change.{bound_at}
use Rattle.mx_retain.specs.Changed.{one_changed}
use Rattle.mx_retain.proofs.OneInput.{if_ok, set_told, del_told, one_told}
use Rattle.mx_retain.proofs.inputs.changed_by.Goals as goal

pub returns-in-SetInput : goal.returns-in-SetInput
returns-in-SetInput c =
    let before = c.args.before.now in
    let after = c.args.after.now in
    let at = c.in-SetInput.space in
    let name = c.in-SetInput.name in
    let args = c.in-SetInput.args in
    let P : Edit → Type 0 = λ e. Apply before e (Ok after) in
    let told = set_told before after at name args c.in-SetInput.value c.text.ensures.valid (subst P c.in-SetInput.is c.requires) in
    if_ok c.changed_input.result
    (λ nodes is. one_told before after c.key_laws.ensures (node.Cell at name (bound_at before at name args)) told.others nodes.items (is ∙ ap (λ (m : Node). one_changed before after m) c.in_ok-node-in-SetInput.ensures))
    c.changed_input.ensures

pub returns-in-DelInput : goal.returns-in-DelInput
returns-in-DelInput c =
    let before = c.args.before.now in
    let after = c.args.after.now in
    let at = c.in-DelInput.space in
    let name = c.in-DelInput.name in
    let args = c.in-DelInput.args in
    let P : Edit → Type 0 = λ e. Apply before e (Ok after) in
    let told = del_told before after at name args c.text.ensures.valid (subst P c.in-DelInput.is c.requires) in
    if_ok c.changed_input-in-DelInput.result
    (λ nodes is. one_told before after c.key_laws.ensures (node.Cell at name (bound_at before at name args)) told.others nodes.items (is ∙ ap (λ (m : Node). one_changed before after m) c.in_ok-node-in-DelInput.ensures))
    c.changed_input-in-DelInput.ensures
