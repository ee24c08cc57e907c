use Rattle.std.proofs.Common.{◌++◌, List, ◌∙◌, ap}
use Rattle.mx_value.specs.declared.node.Node.{Node}
use Rattle.mx_model.specs.Records.{ModelRecord}
use Rattle.mx_retain.specs.Changed.{changed_in}
use Rattle.mx_retain.proofs.Changed.{are_changed}
use Rattle.mx_retain.proofs.inputs.changed_inputs.Goals as goal

pub returns : goal.returns
returns c =
    let all = changed_in c.args.before.now c.args.after.now in
    let old = c.inputs.result.now in
    let new = c.inputs-2.result.now in
    are_changed c.args.before.now c.args.after.now c.key_laws.ensures old new c.add_changed-2.new.nodes.items
    (c.inputs.ensures ∙ ap (λ (t : ModelRecord). t.inputs) c.text.ensures.exact)
    (c.inputs-2.ensures ∙ ap (λ (t : ModelRecord). t.inputs) c.text-2.ensures.exact)
    (c.in_ok-add_changed-2.ensures ∙ ap (λ (r : List Node). r ++ all new) (c.in_ok-add_changed.ensures ∙ ap (λ (r : List Node). r ++ all old) c.new-nodes.ensures.items))
