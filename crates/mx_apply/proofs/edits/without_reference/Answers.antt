use Rattle.std.proofs.Common.{◌≡◌, true, [], IfOk, subst}
use Rattle.mx_model.specs.Records.{ModelRecord}
use Rattle.mx_apply.proofs.ReferenceLemmas.{remove_own}
use Rattle.mx_apply.proofs.edits.without_reference.Goals as goal

pub returns : goal.returns
returns c =
    let some : c.args.path.now ≡ [] → ⊥ = λ e. let t : c.is_empty.result ≡ true = c.is_empty.ensures.1 e in let f = c.if-is_empty.false in cc in
    subst (λ (u : ModelRecord). IfOk c.without_own_reference.result (λ t. t ≡ u)) (remove_own c.args.text.now c.args.name.now c.args.path.now some) c.without_own_reference.ensures
