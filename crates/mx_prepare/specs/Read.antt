-- Whether the defaults of an edit's formula are such as a formula that was read has.
use Rattle.std.specs.Prelude.{Bool, true, false, not, Option, Some, None}
use Rattle.std.specs.List.{list_any}
use Rattle.mx_value.specs.declared.value.Value.{Value}
use Rattle.mx_syntax.specs.declared.stmt.Param.{Param}
use Rattle.mx_edit.specs.declared.edit.Edit.{Edit}
use Rattle.mx_edit.specs.declared.edit.Edit.TheVariants as edit
use Rattle.mx_model.specs.Refused.{is_unfit}

abbrev pub is_one_unfit : Option Value → Bool
is_one_unfit (Some value) = is_unfit value
is_one_unfit None = false

abbrev pub has_unfit_default : Param → Bool
has_unfit_default param = is_one_unfit param.default

abbrev pub is_read : Edit → Bool
is_read (edit.SetCells path name formula) = not (list_any has_unfit_default formula.params)
is_read _ = true
