-- Where an address leads, by the namespaces that are held for items.
use Rattle.std.specs.Prelude.{◌≡◌, ℕ, List, [], ◌∷◌, ◌++◌, length, Option, Some, None, Result, Ok, Err}
use Rattle.mx_value.specs.declared.value.Value.{Value}
use Rattle.mx_value.specs.declared.value.CellsAt.{CellsAt}
use Rattle.mx_value.specs.declared.value.Segment.{Segment, out-Segment}
use Rattle.mx_value.specs.declared.value.Segment.TheOpen.{Segment-F}
use Rattle.mx_value.specs.declared.value.Segment.TheVariants.{Name}
use Rattle.mx_value.specs.declared.node.Node.{Node}
use Rattle.mx_value.specs.declared.node.Node.TheVariants as node
use Rattle.mx_value.specs.declared.namespace.Namespace.{Namespace}
use Rattle.mx_items.specs.declared.refusal.ItemsRefusal.{ItemsRefusal}
use Rattle.mx_items.specs.declared.refusal.ItemsRefusal.TheVariants.{NotHeld, NoMemory}

-- above all spaces at the top
abbrev pub above_all : Namespace
above_all = record { at = []; source = []; overlay = [] }

-- a child adds its name to the address and to the source, and takes the overlay over
abbrev pub child_of : Namespace → List ℕ → Namespace
child_of n x = record { at = n.at ++ Name x ∷ []; source = n.source ++ x ∷ []; overlay = n.overlay }

-- one segment further, from the namespace that the segments before lead to: a name leads to the child, and an item to the
-- namespace that is held for its node
abbrev pub entered : (Node → Option Namespace) → List Segment → Namespace → Segment-F Segment Value CellsAt → Option Namespace
entered held before n (Segment-F.Name x) = Some (child_of n x)
entered held before n (Segment-F.Item arguments) = held (node.Item before arguments)

-- what a step leads to goes on, and where it leads nowhere this is its place
abbrev pub go_on : Option Namespace → ℕ → (Namespace → Result Namespace ℕ) → Result Namespace ℕ
go_on None place rest = Err place
go_on (Some n) place rest = rest n

-- where the rest of an address leads, or the place of the first item that is not held
abbrev pub along : (Node → Option Namespace) → List Segment → Namespace → List Segment → Result Namespace ℕ
along held before n [] = Ok n
along held before n (s ∷ rest) = go_on (entered held before n (out-Segment s)) (length before) (λ m. along held (before ++ s ∷ []) m rest)

-- where an address leads, or the place of the first item on the way that is not held
abbrev pub space_at : (Node → Option Namespace) → List Segment → Result Namespace ℕ
space_at held address = along held [] above_all address

-- the answer says it, or that there is no memory
abbrev pub DoesTell : Result Namespace ItemsRefusal → Result Namespace ℕ → Type 0
DoesTell (Ok n) way = way ≡ Ok n
DoesTell (Err (NotHeld place)) way = way ≡ Err place
DoesTell (Err NoMemory) way = Unit {0}
