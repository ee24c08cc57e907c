use Rattle.std.proofs.Common.{sym}
use Rattle.mx_model.specs.Records.{SpaceRecord}
use Rattle.mx_changes.proofs.EditLemmas.{made_at}
use Rattle.mx_changes.proofs.members.with_params.Goals as goal

pub returns : goal.returns
returns c =
    let change : SpaceRecord → SpaceRecord = λ z. record z { params = c.args.params.now } in
    c.put.ensures c.args.path.now change (sym c.in-Some.ensures) (λ old at. made_at c.args.text.now c.in-Some.s c.space.result.now old c.in_ok-space.space change c.space.ensures c.in_ok-space.ensures at)
