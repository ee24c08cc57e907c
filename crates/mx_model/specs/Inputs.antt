-- Inputs: to which path and cells one belongs, and when it stays.
use Rattle.std.specs.Prelude.{Bool, false, List, [], ◌∷◌, Option, Some, None, length, ◌==◌}
use Rattle.std.specs.List.{filter}
use Rattle.mx_value.specs.declared.value.Value.{Value}
use Rattle.mx_value.specs.declared.value.Segment.{Segment, out-Segment}
use Rattle.mx_value.specs.declared.value.Segment.TheOpen.{Segment-F}
use Rattle.mx_value.specs.declared.value.CellsAt.{CellsAt}
use Rattle.mx_value.specs.declared.node.Node.{Node}
use Rattle.mx_value.specs.declared.node.Node.TheVariants as node
use Rattle.mx_syntax.specs.declared.stmt.Param.{Param}
use Rattle.mx_model.specs.Records.{Name, Path, ModelRecord}
use Rattle.mx_model.specs.Binding.{Member, Cells, Reference, Child, binding}

abbrev pub name_in : Segment-F Segment Value CellsAt → Option Name
name_in (Segment-F.Name name) = Some name
name_in (Segment-F.Item items) = None

abbrev pub joined : Option Name → Option Path → Option Path
joined (Some name) (Some names) = Some (name ∷ names)
joined _ _ = None

-- the names of an address without an item
abbrev pub path_of : List Segment → Option Path
path_of [] = Some []
path_of (segment ∷ segments) = joined (name_in (out-Segment segment)) (path_of segments)

abbrev pub params_of : Option Member → Option (List Param)
params_of (Some (Cells cells)) = Some cells.formula.params
params_of (Some (Reference value owner)) = None
params_of (Some Child) = None
params_of None = None

-- the parameters of the cells of a name at an address without an item
abbrev pub cells_params : ModelRecord → Option Path → Name → Option (List Param)
cells_params text (Some path) name = params_of (binding text path name)
cells_params text None name = None

abbrev as_many : Option (List Param) → List Value → Bool
as_many (Some params) arguments = length params == length arguments
as_many None arguments = false

-- its path is there, its name is bound to cells there, and these have as many parameters as it has arguments
abbrev pub fits : ModelRecord → Node → Bool
fits text (node.Cell at name arguments) = as_many (cells_params text (path_of at) name) arguments
fits text (node.Item at arguments) = false

-- the text without the inputs that do not fit it
abbrev pub without_unfit : ModelRecord → ModelRecord
without_unfit text = record text { inputs = filter (λ (input : Node × Value). fits text input.0) text.inputs }
