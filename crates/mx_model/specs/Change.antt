-- The change of each edit, once it is accepted.
use Rattle.std.specs.Prelude.{Bool, true, false, List, [], ◌∷◌, ◌++◌, Option, Some, None, not, ◌&&◌, map, if◌then◌else◌}
use Rattle.std.specs.List.{filter}
use Rattle.mx_value.specs.Name.{same_name, same_path}
use Rattle.mx_value.specs.declared.value.Value.{Value}
use Rattle.mx_value.specs.declared.value.Segment.{Segment}
use Rattle.mx_value.specs.declared.node.Node.TheVariants as node
use Rattle.mx_syntax.specs.Binding.{bound}
use Rattle.mx_syntax.specs.declared.stmt.Formula.{Formula}
use Rattle.mx_syntax.specs.declared.stmt.Param.{Param}
use Rattle.mx_edit.specs.declared.reference.RefValue.{RefValue}
use Rattle.mx_edit.specs.declared.edit.Edit.{Edit}
use Rattle.mx_edit.specs.declared.edit.Edit.TheVariants as edit
pub use Rattle.mx_members.specs.Words.{define, without}
use Rattle.mx_model.specs.Records.{Name, Path, CellsRecord, SpaceRecord, ModelRecord, empty_space}
use Rattle.mx_model.specs.Keys.{node_eq}
use Rattle.mx_model.specs.Inputs.{cells_params, path_of}

-- ---- members by key, in order of first definition

-- cells that are there keep their setting; new ones do not allow None
abbrev pub define_cells : List (Name × CellsRecord) → Name → Formula → List (Name × CellsRecord)
define_cells [] name formula = (name, record { formula = formula; allow_none = false }) ∷ []
define_cells (c ∷ cells) name formula =
    if same_name name c.0 then (c.0, record { formula = formula; allow_none = c.1.allow_none }) ∷ cells
    else c ∷ define_cells cells name formula

abbrev pub set_allow : List (Name × CellsRecord) → Name → Bool → List (Name × CellsRecord)
set_allow [] name flag = []
set_allow (c ∷ cells) name flag =
    if same_name name c.0 then (c.0, record { formula = c.1.formula; allow_none = flag }) ∷ cells
    else c ∷ set_allow cells name flag

-- ---- spaces

-- the space of a path changed, the others as they are
abbrev pub at_space : ModelRecord → Path → (SpaceRecord → SpaceRecord) → ModelRecord
at_space text path change = record text { spaces = map (λ (s : SpaceRecord). if same_path s.path path then change s else s) text.spaces }

-- the path is that of the first, or of a space below it
abbrev pub is_within : Path → Path → Bool
is_within [] path = true
is_within (name ∷ names) [] = false
is_within (name ∷ names) (other ∷ others) = same_name name other && is_within names others

abbrev pub set_reference : ModelRecord → Path → Name → RefValue → ModelRecord
set_reference text [] name value = record text { globals = define same_name text.globals name value }
set_reference text (first ∷ names) name value =
    at_space text (first ∷ names) (λ (s : SpaceRecord). record s { references = define same_name s.references name value })

abbrev pub remove_reference : ModelRecord → Path → Name → ModelRecord
remove_reference text [] name = record text { globals = without same_name text.globals name }
remove_reference text (first ∷ names) name =
    at_space text (first ∷ names) (λ (s : SpaceRecord). record s { references = without same_name s.references name })

-- ---- the edits

abbrev pub change : ModelRecord → Edit → ModelRecord
change text (edit.NewSpace parent name) = record text { spaces = text.spaces ++ empty_space (parent ++ name ∷ []) ∷ [] }
change text (edit.DelSpace path) = record text { spaces = filter (λ (s : SpaceRecord). not (is_within path s.path)) text.spaces }
change text (edit.SetBases path bases) = at_space text path (λ (s : SpaceRecord). record s { bases = bases })
change text (edit.SetCells path name formula) = at_space text path (λ (s : SpaceRecord). record s { cells = define_cells s.cells name formula })
change text (edit.DelCells path name) = at_space text path (λ (s : SpaceRecord). record s { cells = without same_name s.cells name })
change text (edit.SetAllowNone path name flag) = at_space text path (λ (s : SpaceRecord). record s { cells = set_allow s.cells name flag })
change text (edit.SetRef path name value) = set_reference text path name value
change text (edit.DelRef path name) = remove_reference text path name
change text (edit.SetParams path params) = at_space text path (λ (s : SpaceRecord). record s { params = params })
change text (edit.SetInput at name arguments value) = record text { inputs = define node_eq text.inputs (node.Cell at name arguments) value }
change text (edit.DelInput at name arguments) = record text { inputs = without node_eq text.inputs (node.Cell at name arguments) }
change text (edit.SetTable name table) = record text { tables = define same_name text.tables name table }

-- ---- bound arguments

abbrev pub bound_by : Option (List Param) → List Value → List Value
bound_by (Some params) arguments = bound params arguments
bound_by None arguments = arguments

abbrev pub bound_at : ModelRecord → List Segment → Name → List Value → List Value
bound_at text at name arguments = bound_by (cells_params text (path_of at) name) arguments

-- the edit with the arguments of an input in bound form
abbrev pub bound_edit : ModelRecord → Edit → Edit
bound_edit text (edit.SetInput at name arguments value) = edit.SetInput at name (bound_at text at name arguments) value
bound_edit text (edit.DelInput at name arguments) = edit.DelInput at name (bound_at text at name arguments)
bound_edit text other = other
