-- Which nodes look up whether they are inputs.
use Rattle.std.specs.Prelude.{◌≡◌, Bool, true, false, ◌&&◌, List, [], ◌∷◌}
use Rattle.mx_value.specs.declared.value.Value.{Value}
use Rattle.mx_value.specs.declared.value.CellsAt.{CellsAt}
use Rattle.mx_value.specs.declared.value.Segment.{Segment, out-Segment}
use Rattle.mx_value.specs.declared.value.Segment.TheOpen.{Segment-F}
use Rattle.mx_value.specs.declared.node.Node.{Node}
use Rattle.mx_value.specs.declared.node.Node.TheVariants.{Cell, Item}
use Rattle.mx_edit.specs.declared.key.Key.{Key}
use Rattle.mx_edit.specs.declared.key.Key.TheVariants.{Input}
use Rattle.mx_vertices.specs.Places.{Has}

abbrev pub is_name : Segment-F Segment Value CellsAt → Bool
is_name (Segment-F.Name x) = true
is_name (Segment-F.Item arguments) = false

abbrev pub has_no_item : List Segment → Bool
has_no_item [] = true
has_no_item (s ∷ rest) = is_name (out-Segment s) && has_no_item rest

-- a static node: of cells, at an address without an item. It looks up whether it is an input, before all else
abbrev pub is_static : Node → Bool
is_static (Cell at x arguments) = has_no_item at
is_static (Item at arguments) = false

-- these are exactly the nodes whose inputs are changed
abbrev pub AreChanged : (Key → Bool) → List Node → Type 0
AreChanged changed nodes = (n : Node) → (Has nodes n → changed (Input n) ≡ true) × (changed (Input n) ≡ true → Has nodes n)
