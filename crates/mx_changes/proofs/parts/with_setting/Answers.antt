use Rattle.std.proofs.Common.{◌≡◌, ◌∙◌, List, IfOk, ap, refl, subst}
use Rattle.mx_model.specs.Records.{Name, CellsRecord, SpaceRecord}
use Rattle.mx_model.proofs.NameLemmas.{set_cells}
use Rattle.mx_changes.proofs.parts.with_setting.Goals as goal

pub returns : goal.returns
returns c =
    let old = c.args.space.now in
    let name = c.args.name.now in
    let P : List (Name × CellsRecord) → Type 0 = λ cells. IfOk c.with_all_cells.result (λ (s : SpaceRecord). s ≡ record old { cells = cells }) in
    let held = c.get.ensures ∙ ap (λ (s : SpaceRecord). s.cells) c.space.view_is in
    let formula = c.in_ok-formula.ensures ∙ ap (λ (r : CellsRecord). r.formula) c.old.view_is in
    let made = set_cells old.cells c.get.result.now c.in_ok-cells.cells name name c.in_ok-formula.formula c.in-Some.old.now c.args.allow_none held refl formula c.in-Some.ensures c.in_ok-cells.ensures in
    subst P made c.with_all_cells.ensures
