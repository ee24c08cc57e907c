use Rattle.std.proofs.Common.{◌≡◌, subst, refl, FitsSigned, to_z-of_z, w64, rules}
use Rattle.std.specs.Option.{option_copied}
use Rattle.mx_edit.specs.Rows.{TableRows}
use Rattle.mx_edit.specs.Table.{entry_at, place_of_key}
use Rattle.mx_edit.proofs.Tables.{entry_found}
use Rattle.mx_edit.proofs.table.Table.at.Goals as goal

pub returns : goal.returns
returns c =
    let f : FitsSigned w64 c.args.key = search rules in
    let row : c.place_of_key-row.result ≡ place_of_key c.as_slice.result.now c.args.key = simp to_z-of_z at c.place_of_key-row.ensures in
    subst (λ (t : TableRows). option_copied c.item_at.result ≡ entry_at t c.args.key c.args.column.now) c.self.view_is
    (entry_found _ _ _ _ c.args.key c.args.key c.args.column.now _ _ _ refl c.as_slice-2.ensures c.as_slice.ensures c.as_slice-3.ensures row c.place_of-place.ensures c.item_at.ensures)
