-- Namespaces, where names are looked up: the address of a space, the path whose bindings hold there, and the names with
-- values that the item spaces on the way add. And what an address may be.
use Rattle.std.specs.Prelude.{Bool, false, ◌&&◌, nat_le, if◌then◌else◌, List, [], ◌∷◌, ◌++◌, length, Option, Some, None}
use Rattle.mx_value.specs.Name.{same_name}
use Rattle.mx_value.specs.Size.{size_of}
use Rattle.mx_value.specs.declared.label.Label.{Label}
use Rattle.mx_value.specs.declared.value.Value.{Value}
use Rattle.mx_value.specs.declared.value.Value.TheVariants.{Space}
use Rattle.mx_value.specs.declared.value.CellsAt.{CellsAt}
use Rattle.mx_value.specs.declared.value.Segment.{Segment, out-Segment}
use Rattle.mx_value.specs.declared.value.Segment.TheOpen.{Segment-F}
use Rattle.mx_value.specs.declared.value.Segment.TheVariants as segment
use Rattle.mx_value.specs.declared.namespace.Namespace.{Namespace}
use Rattle.mx_runs.specs.Inputs.{is_name}

-- ---- namespaces

-- where each walk begins: above the spaces at the top
abbrev pub root : Namespace
root = record { at = []; source = []; overlay = [] }

-- The child of a name: the name goes to the address and to the source, and the overlay stays. So a static path is its own
-- source, and has an empty overlay.
abbrev pub child : Label → Namespace → Namespace
child name ns = record { at = ns.at ++ segment.Name name ∷ []; source = ns.source ++ name ∷ []; overlay = ns.overlay }

-- names with their values, each name once
abbrev pub Overlay : Type 0
Overlay = List (Label × Value)

-- with this value of a name: in the place of an earlier one of the name, or else last
abbrev pub overlaid : Overlay → Label → Value → Overlay
overlaid [] name v = (name, v) ∷ []
overlaid (o ∷ os) name v = if same_name o.0 name then (o.0, v) ∷ os else o ∷ overlaid os name v

-- with all these, the later ones in the place of earlier ones of the same name
abbrev pub overlaid_by : Overlay → Overlay → Overlay
overlaid_by under [] = under
overlaid_by under (o ∷ os) = overlaid_by (overlaid under o.0 o.1) os

-- the value of a name, where there is one
abbrev pub value_in : Overlay → Label → Option Value
value_in [] name = None
value_in (o ∷ os) name = if same_name o.0 name then Some o.1 else value_in os name

-- ---- addresses

-- a segment as what it holds
abbrev pub Step : Type 0
Step = Segment-F Segment Value CellsAt

-- An item can follow: the address ends with a name. One that is empty or ends with an item has no parameters.
abbrev pub ends_with_name : List Segment → Bool
ends_with_name [] = false
ends_with_name (s ∷ []) = is_name (out-Segment s)
ends_with_name (s ∷ more) = ends_with_name more

-- at most 64 segments
abbrev pub is_short : List Segment → Bool
is_short at = nat_le (length at) 64

-- the space of an item may be so large: at most 64 segments and, as a value, a size of at most 1,000,000
abbrev pub is_allowed : List Segment → Bool
is_allowed at = is_short at && nat_le (size_of (Space at)) 1_000_000

-- with the name of a segment in front, where it is no item
abbrev pub with_name : Step → Option (List Label) → Option (List Label)
with_name (Segment-F.Name name) (Some names) = Some (name ∷ names)
with_name s names = None

-- the names of an address without items
abbrev pub names_of : List Segment → Option (List Label)
names_of [] = Some []
names_of (s ∷ more) = with_name (out-Segment s) (names_of more)

-- the item of a namespace's space with these arguments
abbrev pub item_at : Namespace → List Value → List Segment
item_at ns args = ns.at ++ segment.Item args ∷ []
