use Rattle.std.proofs.Common.{sym}
use Rattle.mx_model.specs.Records.{SpaceRecord}
use Rattle.mx_model.specs.Change.{define_cells}
use Rattle.mx_changes.proofs.EditLemmas.{keeps_at, made_at, defined_keeps}
use Rattle.mx_changes.proofs.members.with_cells.Goals as goal

pub with_space-requires-clause-others : goal.with_space-requires-clause-others
with_space-requires-clause-others c old at =
    let first = c.space.result.now in
    keeps_at c.args.text.now c.in-Some.s c.args.name.now first old c.in_ok-space.space (record first { cells = define_cells first.cells c.args.name.now c.args.formula.now }) c.space.ensures c.in_ok-space.ensures (defined_keeps first c.args.name.now c.args.formula.now) at

pub returns : goal.returns
returns c =
    let change : SpaceRecord → SpaceRecord = λ z. record z { cells = define_cells z.cells c.args.name.now c.args.formula.now } in
    c.with_space.ensures c.args.path.now change (sym c.in-Some.ensures) (λ old at. made_at c.args.text.now c.in-Some.s c.space.result.now old c.in_ok-space.space change c.space.ensures c.in_ok-space.ensures at)
