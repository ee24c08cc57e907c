-- What each key leads to in a model text, and when a key is changed between two texts.
use Rattle.std.specs.Prelude.{◌≡◌, Bool, [], Option, Some, None, not, if◌then◌else◌}
use Rattle.std.specs.Map.{lookup}
use Rattle.mx_value.specs.Name.{same_name}
use Rattle.mx_value.specs.declared.value.Value.{Value}
use Rattle.mx_value.specs.declared.node.Node.{Node}
use Rattle.mx_value.specs.contracts.node.NodePartialEq.TheImpl as node
use Rattle.mx_syntax.specs.declared.stmt.Params.{Params}
use Rattle.mx_edit.specs.Rows.{TableRows}
use Rattle.mx_edit.specs.Equality.{key_result_eq}
use Rattle.mx_edit.specs.declared.reference.RefValue.{RefValue}
use Rattle.mx_edit.specs.declared.key.Key.{Key}
use Rattle.mx_edit.specs.declared.key.Key.TheVariants as key
use Rattle.mx_edit.specs.declared.key.KeyResult.{KeyResult}
use Rattle.mx_edit.specs.declared.key.KeyResult.TheVariants as found
use Rattle.mx_model.specs.Records.{ModelRecord}
use Rattle.mx_model.specs.Layers.{is_static}
use Rattle.mx_model.specs.Binding.{Member, Cells, Reference, Child, binding, parameters}

-- a name that a path binds
abbrev pub bound_to : Option Member → KeyResult
bound_to (Some (Cells cells)) = found.CellsHere
bound_to (Some (Reference value owner)) = found.Ref value owner
bound_to (Some Child) = found.Child
bound_to None = found.Missing

-- the cells that a path binds to a name
abbrev pub formula_of : Option Member → KeyResult
formula_of (Some (Cells cells)) = found.Formula cells.formula cells.allow_none
formula_of (Some (Reference value owner)) = found.Missing
formula_of (Some Child) = found.Missing
formula_of None = found.Missing

-- a reference of the model: its owner is the empty path
abbrev pub global_of : Option RefValue → KeyResult
global_of (Some value) = found.Ref value []
global_of None = found.Missing

abbrev pub params_of : Option Params → KeyResult
params_of (Some params) = found.Params params
params_of None = found.Missing

abbrev pub value_of : Option Value → KeyResult
value_of (Some value) = found.Value value
value_of None = found.Missing

abbrev pub table_of : Option TableRows → KeyResult
table_of (Some table) = found.Table table
table_of None = found.Missing

abbrev pub node_eq : Node → Node → Bool
node_eq = (node.ghosts).eq

-- the value that was put in for a node
abbrev pub input_of : ModelRecord → Node → Option Value
input_of text n = lookup (node_eq n) text.inputs

abbrev pub key_result : ModelRecord → Key → KeyResult
key_result text (key.Name path name) = bound_to (binding text path name)
key_result text (key.Global name) = global_of (lookup (same_name name) text.globals)
key_result text (key.Cells path name) = formula_of (binding text path name)
key_result text (key.Params path) = params_of (parameters text path)
key_result text (key.Exists path) = if is_static text path then found.There else found.Missing
key_result text (key.Input n) = value_of (input_of text n)
key_result text (key.Table name) = table_of (lookup (same_name name) text.tables)

-- a key is changed between two texts where its results differ
abbrev pub IsChanged : ModelRecord → ModelRecord → Key → Type 0
IsChanged before after k = key_result before k ≡ key_result after k → ⊥

-- the test for it
abbrev pub is_changed : ModelRecord → ModelRecord → Key → Bool
is_changed before after k = not (key_result_eq (key_result before k) (key_result after k))
