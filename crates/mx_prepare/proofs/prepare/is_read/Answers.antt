use Rattle.std.proofs.Common.{◌≡◌, not, sym, ◌∙◌, ap, subst}
use Rattle.std.specs.List.{list_any}
use Rattle.mx_edit.specs.declared.edit.Edit.TheVariants as edit
use Rattle.mx_model.specs.Literals.{IsRead}
use Rattle.mx_prepare.specs.Read.{has_unfit_default}
use Rattle.mx_prepare.proofs.ReadLemmas.{read_told}
use Rattle.mx_prepare.proofs.prepare.is_read.Goals as goal

pub returns-in-SetCells-clause-told : goal.returns-in-SetCells-clause-told
returns-in-SetCells-clause-told c = λ holds.
    let e : c.is_one_unfit.result ≡ list_any has_unfit_default c.in-SetCells.formula.params = c.is_one_unfit.ensures ∙ ap (list_any has_unfit_default) c.as_slice.ensures in
    subst IsRead (sym c.in-SetCells.is) (read_told (edit.SetCells c.in-SetCells.path c.in-SetCells.name c.in-SetCells.formula) (ap not (sym e) ∙ holds))
