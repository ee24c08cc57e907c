-- Which held nodes a clearing names.
use Rattle.std.specs.Prelude.{ℕ, Bool, true, false, ◌&&◌, List, [], ◌∷◌, Option, Some, None}
use Rattle.std.specs.Cmp.Lexicographic.{pointwise}
use Rattle.mx_value.specs.declared.node.Node.{Node}
use Rattle.mx_value.specs.declared.node.Node.TheVariants.{Cell, Item}
use Rattle.mx_value.specs.declared.value.Value.{Value, out-Value}
use Rattle.mx_value.specs.declared.value.CellsAt.{CellsAt}
use Rattle.mx_value.specs.declared.value.Segment.{Segment}
use Rattle.mx_value.specs.declared.value.Segment.TheOpen.{Value-F}
use Rattle.mx_value.specs.Equality.{node_eq, segment_eq, label_eq}
use Rattle.mx_vertices.specs.declared.slot.Body.{Body}

-- the node itself
abbrev pub is_one : Node → Body → Bool
is_one n body = node_eq body.node n

-- the node is of the cells of a name in the space at exactly this address
abbrev pub is_node_of : List Segment → List ℕ → Node → Bool
is_node_of at name (Cell a x arguments) = pointwise segment_eq a at && label_eq x name
is_node_of at name (Item a arguments) = false

abbrev pub is_of_cells : List Segment → List ℕ → Body → Bool
is_of_cells at name body = is_node_of at name body.node

-- every node
abbrev pub is_any : Body → Bool
is_any body = true

-- the address begins with the first
abbrev pub begins_with : List Segment → List Segment → Bool
begins_with [] a = true
begins_with (s ∷ at) [] = false
begins_with (s ∷ at) (t ∷ a) = segment_eq t s && begins_with at a

-- the address of a space, where the value is one
abbrev pub space_in : Value-F Segment Value CellsAt → Option (List Segment)
space_in (Value-F.Space a) = Some a
space_in content = None

-- it is there, and begins with the first
abbrev pub is_some_in : List Segment → Option (List Segment) → Bool
is_some_in at None = false
is_some_in at (Some a) = begins_with at a

-- cells in a space whose address begins with this one, or an item node whose value is such a space
abbrev pub is_node_in : List Segment → Value → Node → Bool
is_node_in at v (Cell a x arguments) = begins_with at a
is_node_in at v (Item a arguments) = is_some_in at (space_in (out-Value v))

abbrev pub is_in_space : List Segment → Body → Bool
is_in_space at body = is_node_in at body.reply.value body.node
