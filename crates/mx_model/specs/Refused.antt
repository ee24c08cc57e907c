-- The refusals of an edit that records decide, before a ring, a number or the walk: each has a test, and the first that
-- holds is the answer.
use Rattle.std.specs.Prelude.{ℕ, Bool, true, false, List, [], ◌∷◌, ◌++◌, Option, Some, None, ◌||◌, ◌&&◌, ◌+◌, not, is_some, is_none, map, length, nat_lt, if◌then◌else◌}
use Rattle.std.specs.List.{list_any}
use Rattle.std.specs.Map.{lookup}
use Rattle.mx_value.specs.Name.{is_name, same_name, same_path}
use Rattle.mx_value.specs.Plain.{is_plain}
use Rattle.mx_value.specs.Nesting.{nesting_of}
use Rattle.mx_value.specs.declared.value.Value.{Value}
use Rattle.mx_value.specs.declared.value.Value.TheVariants as values
use Rattle.mx_value.specs.declared.node.Node.TheVariants as node
use Rattle.mx_syntax.specs.Binding.{is_wrong_count}
use Rattle.mx_syntax.specs.declared.stmt.Param.{Param}
use Rattle.mx_print.specs.Texts.{commas}
use Rattle.mx_print.specs.Values.{value_text, node_text}
use Rattle.mx_edit.specs.declared.reference.RefValue.{RefValue}
use Rattle.mx_edit.specs.declared.reference.RefValue.TheVariants as ref
use Rattle.mx_edit.specs.declared.edit.Edit.{Edit}
use Rattle.mx_edit.specs.declared.edit.Edit.TheVariants as edit
use Rattle.mx_edit.specs.declared.refusal.EditRefusal.{EditRefusal}
use Rattle.mx_edit.specs.declared.refusal.EditRefusal.TheVariants as refusal
use Rattle.mx_model.specs.Records.{Name, Path, SpaceRecord, ModelRecord}
use Rattle.mx_model.specs.Layers.{is_static}
use Rattle.mx_model.specs.Paths.{split_last, is_defined, space_at}
use Rattle.mx_model.specs.Binding.{binding}
use Rattle.mx_model.specs.Keys.{input_of}
use Rattle.mx_model.specs.Walk.{path_text}
use Rattle.mx_model.specs.Displays.{shows_item}
use Rattle.mx_model.specs.Inputs.{path_of, params_of, cells_params}
use Rattle.mx_model.specs.Change.{is_within, bound_at}

-- ---- BadName: a name that is given to what is new is no name

abbrev pub bad_name : Edit → Bool
bad_name (edit.NewSpace parent name) = not (is_name name)
bad_name (edit.SetCells path name formula) = not (is_name name)
bad_name (edit.SetRef path name value) = not (is_name name)
bad_name (edit.SetTable name table) = not (is_name name)
bad_name _ = false

-- ---- NoSuchSpace: a path is no defined space, or for an input no static one. The empty path is the model, where that may hold
-- the member

abbrev pub is_holder : ModelRecord → Path → Bool
is_holder text [] = true
is_holder text (name ∷ names) = is_defined text (name ∷ names)

abbrev pub lacks_path : ModelRecord → Option Path → Bool
lacks_path text (Some path) = not (is_static text path)
lacks_path text None = false

abbrev pub no_such_space : ModelRecord → Edit → Bool
no_such_space text (edit.NewSpace parent name) = not (is_holder text parent)
no_such_space text (edit.DelSpace path) = not (is_defined text path)
no_such_space text (edit.SetBases path bases) = not (is_defined text path) || list_any (λ (base : Path). not (is_defined text base)) bases
no_such_space text (edit.SetCells path name formula) = not (is_defined text path)
no_such_space text (edit.DelCells path name) = not (is_defined text path)
no_such_space text (edit.SetAllowNone path name flag) = not (is_defined text path)
no_such_space text (edit.SetRef path name value) = not (is_holder text path)
no_such_space text (edit.DelRef path name) = not (is_holder text path)
no_such_space text (edit.SetParams path params) = not (is_defined text path)
no_such_space text (edit.SetInput at name arguments value) = lacks_path text (path_of at)
no_such_space text (edit.DelInput at name arguments) = lacks_path text (path_of at)
no_such_space text (edit.SetTable name table) = false

-- ---- NoSuchMember: what is to be changed, or is named as a target, is not there

abbrev pub has_cells : Name → Option SpaceRecord → Bool
has_cells name (Some s) = is_some (lookup (same_name name) s.cells)
has_cells name None = false

abbrev pub has_reference : Name → Option SpaceRecord → Bool
has_reference name (Some s) = is_some (lookup (same_name name) s.references)
has_reference name None = false

abbrev pub has_params : Option SpaceRecord → Bool
has_params (Some s) = is_some s.params
has_params None = false

abbrev pub holds_reference : ModelRecord → Path → Name → Bool
holds_reference text [] name = is_some (lookup (same_name name) text.globals)
holds_reference text (first ∷ names) name = has_reference name (space_at text (first ∷ names))

-- the last name of a path is bound to cells
abbrev pub is_cells : ModelRecord → Option (Path × Name) → Bool
is_cells text (Some (path, name)) = is_some (params_of (binding text path name))
is_cells text None = false

abbrev pub is_target : ModelRecord → RefValue → Bool
is_target text (ref.Plain value) = true
is_target text (ref.Table name) = is_some (lookup (same_name name) text.tables)
is_target text (ref.Target path fixed) = is_static text path || is_cells text (split_last path)

abbrev pub lacks_cells : ModelRecord → Option Path → Name → Bool
lacks_cells text (Some path) name = is_none (params_of (binding text path name))
lacks_cells text None name = false

abbrev pub no_such_member : ModelRecord → Edit → Bool
no_such_member text (edit.DelCells path name) = not (has_cells name (space_at text path))
no_such_member text (edit.SetAllowNone path name flag) = not (has_cells name (space_at text path))
no_such_member text (edit.SetRef path name value) = not (is_target text value)
no_such_member text (edit.DelRef path name) = not (holds_reference text path name)
no_such_member text (edit.SetParams path None) = not (has_params (space_at text path))
no_such_member text (edit.SetInput at name arguments value) = lacks_cells text (path_of at) name
no_such_member text (edit.DelInput at name arguments) = lacks_cells text (path_of at) name
no_such_member text _ = false

-- ---- NameTaken: another member of the space, or of the model, has the name

abbrev pub has_child : ModelRecord → Path → Name → Bool
has_child text path name = is_defined text (path ++ name ∷ [])

abbrev pub name_taken : ModelRecord → Edit → Bool
name_taken text (edit.NewSpace parent name) = has_child text parent name || (has_cells name (space_at text parent) || holds_reference text parent name)
name_taken text (edit.SetCells path name formula) = has_child text path name || has_reference name (space_at text path)
name_taken text (edit.SetRef path name value) = has_child text path name || has_cells name (space_at text path)
name_taken text _ = false

-- ---- WrongCount: the arguments of an input do not bind

abbrev pub do_not_bind : Option (List Param) → List Value → Bool
do_not_bind (Some params) arguments = is_wrong_count params (length arguments)
do_not_bind None arguments = false

abbrev pub wrong_count : ModelRecord → Edit → Bool
wrong_count text (edit.SetInput at name arguments value) = do_not_bind (cells_params text (path_of at) name) arguments
wrong_count text (edit.DelInput at name arguments) = do_not_bind (cells_params text (path_of at) name) arguments
wrong_count text _ = false

-- ---- ItemAddress: the address of an input has an item

abbrev pub item_address : Edit → Bool
item_address (edit.SetInput at name arguments value) = is_none (path_of at)
item_address (edit.DelInput at name arguments) = is_none (path_of at)
item_address _ = false

-- ---- BadValue: a base is named twice, or a value can not stand in a model text

-- a value or argument that is not plain, or nested more than 64 deep
abbrev pub is_unfit : Value → Bool
is_unfit value = not (is_plain value) || nat_lt 64 (nesting_of value)

abbrev pub is_nothing : Value → Bool
is_nothing values.Nothing = true
is_nothing _ = false

abbrev pub is_long : ℕ → Bool
is_long bytes = nat_lt 60000 bytes

-- one of the paths stands twice
abbrev pub has_double : List Path → Bool
has_double [] = false
has_double (path ∷ paths) = list_any (same_path path) paths || has_double paths

abbrev pub is_empty : List Param → Bool
is_empty [] = true
is_empty (param ∷ params) = false

abbrev pub bad_value : ModelRecord → Edit → Bool
bad_value text (edit.SetBases path bases) = has_double bases || is_long (length (commas (map path_text bases)))
bad_value text (edit.SetCells path name formula) = shows_item formula
bad_value text (edit.SetRef path name (ref.Plain value)) = is_unfit value || is_long (length (value_text value))
bad_value text (edit.SetParams path (Some params)) = is_empty params.params
bad_value text (edit.SetInput at name arguments value) =
    is_nothing value || (list_any is_unfit arguments ||
    (is_unfit value || is_long (length (node_text (node.Cell at name (bound_at text at name arguments))) + length (value_text value))))
bad_value text (edit.DelInput at name arguments) =
    list_any is_unfit arguments || is_none (input_of text (node.Cell at name (bound_at text at name arguments)))
bad_value text _ = false

-- ---- InUse: the first space in order of creation that stays and has a removed one as base

abbrev pub uses : Path → SpaceRecord → Bool
uses removed s = not (is_within removed s.path) && list_any (is_within removed) s.bases

abbrev pub first_user : Path → List SpaceRecord → Option Path
first_user removed [] = None
first_user removed (s ∷ spaces) = if uses removed s then Some s.path else first_user removed spaces

abbrev pub in_use : ModelRecord → Edit → Option EditRefusal
in_use text (edit.DelSpace path) = elim (first_user path text.spaces) [ Some user ↦ Some (refusal.InUse user) | None ↦ None ]
in_use text _ = None

-- ---- the first that applies

abbrev pub record_trouble : ModelRecord → Edit → Option EditRefusal
record_trouble text e =
    if bad_name e then Some refusal.BadName
    else if no_such_space text e then Some refusal.NoSuchSpace
    else if no_such_member text e then Some refusal.NoSuchMember
    else if name_taken text e then Some refusal.NameTaken
    else if wrong_count text e then Some refusal.WrongCount
    else if item_address e then Some refusal.ItemAddress
    else if bad_value text e then Some refusal.BadValue
    else in_use text e
