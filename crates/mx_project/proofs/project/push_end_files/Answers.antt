use Rattle.std.proofs.lemmas.Result.{on_ok_weaker}
use Rattle.mx_project.proofs.Together.{ends_of}
use Rattle.mx_project.proofs.project.push_end_files.Goals as goal

pub returns : goal.returns
returns c =
    on_ok_weaker c.push_named-2.result
    (λ e. ends_of c.args.text.now c.args.all.now.items c.push_named.new.all.items c.push_named-2.new.all.items c.inputs.result.now c.in_ok-refs.refs.items c.in_ok-inputs.inputs.items
    c.in_ok-refs.ensures c.in_ok-push_named.ensures c.inputs.ensures c.in_ok-inputs.ensures e)
    c.push_named-2.ensures
