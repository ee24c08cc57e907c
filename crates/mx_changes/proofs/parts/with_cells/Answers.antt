use Rattle.std.proofs.Common.{◌≡◌, ◌∙◌, List, IfOk, ap, refl, subst}
use Rattle.mx_model.specs.Records.{Name, CellsRecord, SpaceRecord}
use Rattle.mx_model.proofs.NameLemmas.{made_cells}
use Rattle.mx_changes.proofs.parts.with_cells.Goals as goal

pub returns : goal.returns
returns c =
    let old = c.args.space.now in
    let name = c.args.name.now in
    let P : List (Name × CellsRecord) → Type 0 = λ cells. IfOk c.with_all_cells.result (λ (s : SpaceRecord). s ≡ record old { cells = cells }) in
    let held = c.get.ensures ∙ ap (λ (s : SpaceRecord). s.cells) c.space.view_is in
    let made = made_cells old.cells c.get.result.now c.in_ok-cells.cells name name c.args.formula.now c.in_ok-formula.formula c.allows_none-allow_none.result held refl c.in_ok-formula.ensures c.allows_none-allow_none.ensures c.in_ok-cells.ensures in
    subst P made c.with_all_cells.ensures
