use Rattle.std.proofs.Common.{sym}
use Rattle.mx_value.specs.Name.{same_name}
use Rattle.mx_model.specs.Records.{SpaceRecord}
use Rattle.mx_model.specs.Change.{without}
use Rattle.mx_changes.proofs.EditLemmas.{keeps_at, made_at, no_reference_keeps}
use Rattle.mx_changes.proofs.members.without_own_reference.Goals as goal

pub with_space-requires-clause-others : goal.with_space-requires-clause-others
with_space-requires-clause-others c old at =
    let first = c.space.result.now in
    keeps_at c.args.text.now c.in-Some.s c.args.name.now first old c.in_ok-space.space (record first { references = without same_name first.references c.args.name.now }) c.space.ensures c.in_ok-space.ensures (no_reference_keeps first c.args.name.now) at

pub returns : goal.returns
returns c =
    let change : SpaceRecord → SpaceRecord = λ z. record z { references = without same_name z.references c.args.name.now } in
    c.with_space.ensures c.args.path.now change (sym c.in-Some.ensures) (λ old at. made_at c.args.text.now c.in-Some.s c.space.result.now old c.in_ok-space.space change c.space.ensures c.in_ok-space.ensures at)
