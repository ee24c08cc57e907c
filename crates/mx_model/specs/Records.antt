-- A model text as plain data.
use Rattle.std.specs.Prelude.{ℕ, Bool, List, [], ◌∷◌, Option, None, codes}
use Rattle.mx_value.specs.declared.value.Value.{Value}
use Rattle.mx_value.specs.declared.node.Node.{Node}
use Rattle.mx_syntax.specs.declared.stmt.Formula.{Formula}
use Rattle.mx_syntax.specs.declared.stmt.Params.{Params}
use Rattle.mx_edit.specs.Rows.{TableRows}
use Rattle.mx_edit.specs.declared.reference.RefValue.{RefValue}

abbrev pub Name : Type 0
Name = List ℕ

-- the names of a space from the top
abbrev pub Path : Type 0
Path = List Name

-- cells: their formula, and whether it may give None
pub record CellsRecord : Type 0 where
  pub formula : Formula
  pub allow_none : Bool

-- a defined space: its path, its bases in order, its parameters where it has any, and its cells and references by name in
-- order of first definition
pub record SpaceRecord : Type 0 where
  pub path : Path
  pub bases : List Path
  pub params : Option Params
  pub cells : List (Name × CellsRecord)
  pub references : List (Name × RefValue)

-- a model text: the defined spaces in order of creation, the references of the model, the inputs by node, and the tables in
-- order of first definition. The inputs stand in an order of the text's own, of which nothing depends.
pub record ModelRecord : Type 0 where
  pub spaces : List SpaceRecord
  pub globals : List (Name × RefValue)
  pub inputs : List (Node × Value)
  pub tables : List (Name × TableRows)

-- a space without members
abbrev pub empty_space : Path → SpaceRecord
empty_space path = record { path = path; bases = []; params = None; cells = []; references = [] }

-- nothing at all stands in it
abbrev pub empty_text : ModelRecord
empty_text = record { spaces = []; globals = []; inputs = []; tables = [] }

-- a model begins with the one empty space Main
abbrev pub beginning : ModelRecord
beginning = record { spaces = empty_space (codes "Main" ∷ []) ∷ []; globals = []; inputs = []; tables = [] }
