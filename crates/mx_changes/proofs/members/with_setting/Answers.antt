use Rattle.std.proofs.Common.{sym}
use Rattle.mx_model.specs.Records.{SpaceRecord}
use Rattle.mx_model.specs.Change.{set_allow}
use Rattle.mx_changes.proofs.EditLemmas.{keeps_at, made_at, allowed_keeps, some_cells}
use Rattle.mx_changes.proofs.members.with_setting.Goals as goal

pub with_space-requires-clause-others : goal.with_space-requires-clause-others
with_space-requires-clause-others c old at =
    let first = c.space.result.now in
    let name = c.args.name.now in
    let has = some_cells c.args.text.now c.args.path.now c.in-Some.s first name (sym c.in-Some.ensures) c.space.ensures c.requires in
    keeps_at c.args.text.now c.in-Some.s name first old c.in_ok-space.space (record first { cells = set_allow first.cells name c.args.allow_none }) c.space.ensures c.in_ok-space.ensures (allowed_keeps first name c.args.allow_none has.found has.is) at

pub returns : goal.returns
returns c =
    let change : SpaceRecord → SpaceRecord = λ z. record z { cells = set_allow z.cells c.args.name.now c.args.allow_none } in
    c.with_space.ensures c.args.path.now change (sym c.in-Some.ensures) (λ old at. made_at c.args.text.now c.in-Some.s c.space.result.now old c.in_ok-space.space change c.space.ensures c.in_ok-space.ensures at)
