-- The test of an edit's defaults tells what it is meant to.
use Rattle.std.proofs.Common.{◌≡◌, Bool, true, false, not, List, [], ◌∷◌, Option, Some, None, inl, inr, refl, sym, ◌∙◌, ap, subst}
use Rattle.std.specs.Prelude.{IsTrue}
use Rattle.std.specs.List.{list_any}
use Rattle.mx_value.specs.declared.value.Value.{Value}
use Rattle.mx_c3.specs.Lists.{Has}
use Rattle.mx_syntax.specs.declared.stmt.Param.{Param}
use Rattle.mx_edit.specs.declared.edit.Edit.{Edit}
use Rattle.mx_edit.specs.declared.edit.Edit.TheVariants as edit
use Rattle.mx_model.specs.Refused.{is_unfit}
use Rattle.mx_model.proofs.Filtered.{has_filter}
use Rattle.mx_changes.proofs.Free.{either}
use Rattle.mx_model.specs.Literals.{AreLiteral, IsRead}
use Rattle.mx_prepare.specs.Read.{is_one_unfit, has_unfit_default, is_read}

none_of : (params : List Param) (p : Param) → Has params p → list_any has_unfit_default params ≡ false → has_unfit_default p ≡ false
none_of [] p h e = absurd h
none_of (q ∷ params) p h e =
    let b = either (has_unfit_default q) (list_any has_unfit_default params) e in
    elim h [ inl i ↦ ap has_unfit_default (sym i) ∙ b.0 | inr r ↦ none_of params p r b.1 ]

not_false : (b : Bool) → not b ≡ true → b ≡ false
not_false true e = sym e
not_false false e = refl

literal : (params : List Param) → list_any has_unfit_default params ≡ false → AreLiteral params
literal params e default h =
    let f = has_filter (λ (p : Param). p.default) params default h in
    ap is_one_unfit (sym f.is) ∙ none_of params f.from f.among e

pub read_told : (e : Edit) → is_read e ≡ true → IsRead e
read_told (edit.NewSpace parent name) e = tt
read_told (edit.DelSpace path) e = tt
read_told (edit.SetBases path bases) e = tt
read_told (edit.SetCells path name formula) e = literal formula.params (not_false (list_any has_unfit_default formula.params) e)
read_told (edit.DelCells path name) e = tt
read_told (edit.SetAllowNone path name flag) e = tt
read_told (edit.SetRef path name value) e = tt
read_told (edit.DelRef path name) e = tt
read_told (edit.SetParams path params) e = tt
read_told (edit.SetInput at name arguments value) e = tt
read_told (edit.DelInput at name arguments) e = tt
read_told (edit.SetTable name table) e = tt
