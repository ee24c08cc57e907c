-- Model texts with small literals.
use Rattle.std.specs.Prelude.{Option, Some, None}
use Rattle.mx_syntax.specs.declared.stmt.Params.{Params}
use Rattle.mx_edit.specs.Rows.{TableRows}
use Rattle.mx_edit.specs.declared.edit.Edit.{Edit}
use Rattle.mx_edit.specs.declared.edit.Edit.TheVariants as edit
use Rattle.mx_model.specs.Records.{Name, CellsRecord, SpaceRecord, ModelRecord}
use Rattle.mx_limit_laws.specs.Values.{Each}
use Rattle.mx_limit_laws.specs.Replies.{HasSmallLiterals, HasSmallDefaults, IsSmallTable}

abbrev pub HasSmallParams : Option Params → Type 0
HasSmallParams None = Unit {0}
HasSmallParams (Some ps) = HasSmallDefaults ps

-- the literals of a space's cells and of its parameters are arguments
pub record IsSmallSpace (s : SpaceRecord) : Type 0 where
  pub cells : Each (λ (c : Name × CellsRecord). HasSmallLiterals c.1.formula) s.cells
  pub params : HasSmallParams s.params

-- the literals of all formulas and parameter lists of a text are arguments: plain, and within the limits on size and nesting
abbrev pub HasSmallFormulas : ModelRecord → Type 0
HasSmallFormulas text = Each IsSmallSpace text.spaces

-- so are the numbers of its tables
abbrev pub HasSmallTables : ModelRecord → Type 0
HasSmallTables text = Each (λ (t : Name × TableRows). IsSmallTable t.1) text.tables

-- so are both. That its inputs and references are such, its being valid says.
pub record IsSmallText (text : ModelRecord) : Type 0 where
  pub formulas : HasSmallFormulas text
  pub tables : HasSmallTables text

-- such are the literals of a formula or a parameter list that an edit puts into a text
abbrev pub HasSmallFormula : Edit → Type 0
HasSmallFormula (edit.NewSpace parent name) = Unit {0}
HasSmallFormula (edit.DelSpace path) = Unit {0}
HasSmallFormula (edit.SetBases path bases) = Unit {0}
HasSmallFormula (edit.SetCells path name formula) = HasSmallLiterals formula
HasSmallFormula (edit.DelCells path name) = Unit {0}
HasSmallFormula (edit.SetAllowNone path name flag) = Unit {0}
HasSmallFormula (edit.SetRef path name value) = Unit {0}
HasSmallFormula (edit.DelRef path name) = Unit {0}
HasSmallFormula (edit.SetParams path params) = HasSmallParams params
HasSmallFormula (edit.SetInput at name arguments value) = Unit {0}
HasSmallFormula (edit.DelInput at name arguments) = Unit {0}
HasSmallFormula (edit.SetTable name table) = Unit {0}

-- and such the numbers of a table that it puts there
abbrev pub HasSmallTable : Edit → Type 0
HasSmallTable (edit.NewSpace parent name) = Unit {0}
HasSmallTable (edit.DelSpace path) = Unit {0}
HasSmallTable (edit.SetBases path bases) = Unit {0}
HasSmallTable (edit.SetCells path name formula) = Unit {0}
HasSmallTable (edit.DelCells path name) = Unit {0}
HasSmallTable (edit.SetAllowNone path name flag) = Unit {0}
HasSmallTable (edit.SetRef path name value) = Unit {0}
HasSmallTable (edit.DelRef path name) = Unit {0}
HasSmallTable (edit.SetParams path params) = Unit {0}
HasSmallTable (edit.SetInput at name arguments value) = Unit {0}
HasSmallTable (edit.DelInput at name arguments) = Unit {0}
HasSmallTable (edit.SetTable name table) = IsSmallTable table

abbrev pub IsSmallEdit : Edit → Type 0
IsSmallEdit e = HasSmallFormula e × HasSmallTable e
