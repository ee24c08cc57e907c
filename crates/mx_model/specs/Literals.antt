-- Formulas whose parameters have literals as defaults.
use Rattle.std.specs.Prelude.{◌≡◌, List, false}
use Rattle.mx_value.specs.declared.value.Value.{Value}
use Rattle.mx_syntax.specs.Binding.{defaults}
use Rattle.mx_syntax.specs.declared.stmt.Param.{Param}
use Rattle.mx_edit.specs.declared.edit.Edit.{Edit}
use Rattle.mx_edit.specs.declared.edit.Edit.TheVariants as edit
use Rattle.mx_c3.specs.Lists.{Has}
use Rattle.mx_model.specs.Records.{Name, CellsRecord, SpaceRecord, ModelRecord}
use Rattle.mx_model.specs.Refused.{is_unfit}

-- the defaults are plain and nested no deeper than a value may be: literals are so
abbrev pub AreLiteral : List Param → Type 0
AreLiteral params = (default : Value) → Has (defaults params) default → is_unfit default ≡ false

-- so are those of all cells
abbrev pub HasLiterals : ModelRecord → Type 0
HasLiterals text = (s : SpaceRecord) (c : Name × CellsRecord) → Has text.spaces s → Has s.cells c → AreLiteral c.1.formula.params

-- a formula of an edit is one that was read: its defaults are literals
abbrev pub IsRead : Edit → Type 0
IsRead (edit.SetCells path name formula) = AreLiteral formula.params
IsRead _ = Unit {0}
